-- The words after the program's name: which of them are a command, and what it asks for.
use Rattle.std.specs.Prelude.{◌⊎◌, ℕ, ◌^◌, nat_lt, nat_le, length, option_and_then, ◌==◌, ◌&&◌, ◌||◌, ◌++◌, is_some, Bool, false, not, List, [], ◌∷◌, codes, if◌then◌else◌, Some, None, ◌≡◌, map, String, string_bytes}
use Rattle.std.specs.Str.{bytes_eq}
use Rattle.std.specs.Str.Parse.{digits_value}
use Rattle.std.specs.Char.{is_digit}
use Rattle.std.specs.List.{list_all}
use Rattle.std.specs.Option.{option_map, option_to_list}
use Rattle.std.specs.declared.option.Option.{Option}
use Rattle.std.specs.declared.alloc.Global.{Global}

-- a command with the names of its files
pub data Asked : Type 0 where
  -- whether a graph holds of an executable: the executable's name and the graph's
  check : List ℕ → List ℕ → Asked
  -- the instructions of an executable: its name, the first address, and how many at most
  show : List ℕ → ℕ → ℕ → Asked
  -- the report of a graph of an executable: the executable's name and the graph's
  report : List ℕ → List ℕ → Asked
  -- the graph of the functions of an executable: its name, the entries beside its own, and the addresses that lie outside
  lift : List ℕ → List ℕ → List ℕ → Asked

-- the character that no name begins with: `-` (ASCII)
abbrev pub dash : ℕ
dash = 45

-- a word that names a file
abbrev pub is_name : List ℕ → Bool
is_name [] = false
is_name (first ∷ rest) = not (first == dash)

-- two words, each a name
abbrev pub names_of : List (List ℕ) → Option (List ℕ × List ℕ)
names_of (file ∷ graph ∷ []) =
    if is_name file && is_name graph then Some (file, graph) else None
names_of words = None

-- `check` and `report` have two names
abbrev pub check_of : List (List ℕ) → Option Asked
check_of words = option_map (λ names. check names.0 names.1) (names_of words)

-- the same of `report`
abbrev pub report_of : List (List ℕ) → Option Asked
report_of words = option_map (λ names. report names.0 names.1) (names_of words)

-- a word begins with a character
abbrev pub begins_with : ℕ → List ℕ → Bool
begins_with c [] = false
begins_with c (first ∷ rest) = first == c

-- a word is of one digit or more in a base
abbrev pub is_numeral : ℕ → List ℕ → Bool
is_numeral base word = nat_lt 0 (length word) && list_all (λ c. is_digit c base) word

-- the number of 64 bits that a word writes in a base
unfoldable pub number_of : ℕ → List ℕ → Option ℕ
number_of base word =
    if is_numeral base word && nat_lt (digits_value base word) (2 ^ 64)
    then Some (digits_value base word)
    else None

-- an address: 1 to 16 hexadecimal digits of either case
abbrev pub address_of : List ℕ → Option ℕ
address_of word = if nat_le (length word) 16 then number_of 16 word else None

-- the most instructions that are shown
abbrev pub most_shown : ℕ
most_shown = 65536

-- a number, where so many may be shown
abbrev pub parsed_in_range : ℕ → Option ℕ
parsed_in_range n = if nat_le n most_shown then Some n else None

-- the digit `0` (ASCII)
abbrev pub zero_digit : ℕ
zero_digit = 48

-- a count: decimal digits, the first one not zero, up to the most that are shown
abbrev pub count_of : List ℕ → Option ℕ
count_of word =
    if begins_with zero_digit word then None
    else option_and_then parsed_in_range (number_of 10 word)

-- `show` of a file, where both numbers are there
abbrev pub show_from : List ℕ → Option ℕ → Option ℕ → Option Asked
show_from file (Some address) (Some count) = Some (show file address count)
show_from file address count = None

-- `show` has three words: a name, an address and a count
abbrev pub show_of : List (List ℕ) → Option Asked
show_of (file ∷ address ∷ count ∷ []) =
    if is_name file then show_from file (address_of address) (count_of count) else None
show_of words = None

-- the word before an entry
abbrev pub root_word : List ℕ
root_word = codes "--root"

-- the word before an address that lies outside
abbrev pub extern_word : List ℕ
extern_word = codes "--extern"

-- an option with its address
abbrev pub is_option : List ℕ → List ℕ → Bool
is_option word address = (bytes_eq word root_word || bytes_eq word extern_word) && is_some (address_of address)

-- the file after options
abbrev pub lifted_file : List (List ℕ) → Option (List ℕ)
lifted_file [] = None
lifted_file (file ∷ []) = if is_name file then Some file else None
lifted_file (word ∷ address ∷ rest) = if is_option word address then lifted_file rest else None

-- the address behind a word, where that is the option
abbrev pub address_behind : List ℕ → List ℕ → List ℕ → Option ℕ
address_behind option word address = if bytes_eq word option then address_of address else None

-- the addresses of an option
abbrev pub addresses_of : List ℕ → List (List ℕ) → List ℕ
addresses_of option [] = []
addresses_of option (file ∷ []) = []
addresses_of option (word ∷ address ∷ rest) = option_to_list (address_behind option word address) ++ addresses_of option rest

-- `lift` has options, in any order, and a name
abbrev pub lift_of : List (List ℕ) → Option Asked
lift_of words = option_map (λ file. lift file (addresses_of root_word words) (addresses_of extern_word words)) (lifted_file words)

-- the grammar of the words
abbrev pub request_of : List (List ℕ) → Option Asked
request_of [] = None
request_of (command ∷ words) =
    if bytes_eq command (codes "check") then check_of words
    else (if bytes_eq command (codes "report") then report_of words
    else (if bytes_eq command (codes "show") then show_of words
    else (if bytes_eq command (codes "lift") then lift_of words else None)))

-- the words ask for this
abbrev pub Requests : List (String Global) → Asked → Type 0
Requests words asked = request_of (map string_bytes words) ≡ Some asked

-- a command takes this executable and this graph
abbrev pub TakesBoth : Asked → List ℕ → List ℕ → Type 0
TakesBoth asked file graph = (asked ≡ check file graph) ⊎ (asked ≡ report file graph)
