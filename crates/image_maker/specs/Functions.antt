-- The functions of a made executable, of 32 bytes each, and the start before them (Intel SDM volume 2).
use Rattle.std.specs.Prelude.{ℕ, zero, suc, ◌+◌, ◌-◌, ◌%◌, ◌==◌, Bool, if◌then◌else◌, List, [], ◌∷◌, ◌++◌, length, replicate}
use Rattle.byteorder.specs.Endian.{little_bytes}
use Rattle.image_maker.specs.declared.functions.Kind.{Kind}
use Rattle.image_maker.specs.declared.functions.Kind.TheVariants.{Saves, Counts, Stores, Branches}

-- code filled up to a size by int3
abbrev pub filled : ℕ → List ℕ → List ℕ
filled size code = code ++ replicate (size - length code) 0xCC

-- the bytes of a call: its opcode, and the distance from its end to what it calls
abbrev pub call_size : ℕ
call_size = 5

-- a call to the address so many bytes after it (Intel SDM volume 2, CALL)
abbrev pub call_ahead : ℕ → List ℕ
call_ahead distance = 0xE8 ∷ little_bytes 4 distance

-- after some code, a call of what stands behind a block of so many bytes
abbrev pub call_behind : ℕ → List ℕ → List ℕ
call_behind size code = call_ahead (size - (length code + call_size))

-- the start: it calls the first function and returns
abbrev pub start : List ℕ
start = filled 8 (call_behind 8 [] ++ 0xC3 ∷ [])

-- the kinds of functions take turns
abbrev pub kind_of : ℕ → Kind
kind_of number =
    if number % 4 == 0 then Saves
    else if number % 4 == 1 then Counts
    else if number % 4 == 2 then Stores
    else Branches

-- what a function does before its call
abbrev pub front_of : ℕ → Kind → List ℕ
-- push rbx; mov eax, number
front_of number Saves = 0x53 ∷ 0xB8 ∷ little_bytes 4 number
-- xor ecx, ecx; inc ecx; cmp ecx, 10; jne back to inc
front_of number Counts = 0x31 ∷ 0xC9 ∷ 0xFF ∷ 0xC1 ∷ 0x83 ∷ 0xF9 ∷ 0x0A ∷ 0x75 ∷ 0xF9 ∷ []
-- mov [rdi], rsi
front_of number Stores = 0x48 ∷ 0x89 ∷ 0x37 ∷ []
-- test edi, edi; je over the call
front_of number Branches = 0x85 ∷ 0xFF ∷ 0x74 ∷ 0x05 ∷ []

-- what it does after its call
abbrev pub back_of : Kind → List ℕ
-- pop rbx; ret
back_of Saves = 0x5B ∷ 0xC3 ∷ []
-- ret
back_of Counts = 0xC3 ∷ []
back_of Stores = 0xC3 ∷ []
back_of Branches = 0xC3 ∷ []

-- the call of the next function; the last function has nops in its place
abbrev pub link_of : Bool → List ℕ → List ℕ
link_of is_last front = if is_last then replicate call_size 0x90 else call_behind 32 front

-- the function of a number
abbrev pub function_of : ℕ → Bool → List ℕ
function_of number is_last =
    let front = front_of number (kind_of number) in
    filled 32 (front ++ link_of is_last front ++ back_of (kind_of number))

-- the first so many of the functions of which there are `count`
abbrev pub functions : ℕ → ℕ → List ℕ
functions count zero = []
functions count (suc number) =
    functions count number ++ function_of number (number + 1 == count)
