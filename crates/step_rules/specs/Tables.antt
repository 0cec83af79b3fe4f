-- The table rule: which numbers a load gives that neither fixed bytes nor a cell tell, by a bound of its index.
use Rattle.std.specs.Prelude.{ℕ, Bool, true, false, not, ◌&&◌, if◌then◌else◌, Option, Some, None, List, [], ◌∷◌}
use Rattle.std.specs.Option.{option_and_then, option_map, option_or}
use Rattle.bits_core.specs.declared.width.Width.{Width}
use Rattle.bits_core.specs.declared.width.Width.TheVariants.{W8, W16, W32, W64}
use Rattle.bits_core.specs.Width.{bytes_of}
use Rattle.elf_image.specs.declared.image.Image.{Image}
use Rattle.sym_terms.specs.Plain.{PlainSum, constant_alone}
use Rattle.sym_terms.specs.Normal.{minus, times}
use Rattle.jump_tables.specs.Table.{table_values}
use Rattle.jump_tables.specs.Targets.{targets}
use Rattle.predicates.specs.declared.bound.Values.{Values}
use Rattle.predicates.specs.declared.bound.Values.TheVariants.{Range, OneOf}
use Rattle.predicates.specs.declared.bound.Bound.{Bound}
use Rattle.predicates.specs.Predicate.{Predicate}
use Rattle.x86_instr.specs.declared.instr.Instr.{Instr}
use Rattle.step_rules.specs.View.{View}
use Rattle.step_rules.specs.Names.{name_term, is_low_register}
use Rattle.step_rules.specs.Access.{address_term_of, bytes_term}
use Rattle.step_rules.specs.Bounds.{with_bound}

-- ---- which table

-- the entries of a table that a load may take: where the table begins, how many bytes its entries lie apart, and the
-- first and the last of them
pub record Choice : Type 0 where
  pub base : ℕ
  pub scale : ℕ
  pub low : ℕ
  pub high : ℕ

-- the entries low to high, where the address is a constant after a multiple of the key
abbrev pub choice_by : PlainSum → PlainSum → ℕ → ℕ → ℕ → Option Choice
choice_by at key low high scale =
    option_map (λ base. record { base = base; scale = scale; low = low; high = high })
    (constant_alone (minus at (times scale key)))

-- the same by the first of several scales
abbrev pub choice_among : PlainSum → PlainSum → ℕ → ℕ → List ℕ → Option Choice
choice_among at key low high [] = None
choice_among at key low high (k ∷ ks) = option_or (choice_by at key low high k) (choice_among at key low high ks)

-- the entries that a key with its values chooses: those of a range, by a scale of 1, 2, 4 or 8
abbrev pub choice_of : PlainSum → PlainSum → Values → Option Choice
choice_of at key (Range low high) = choice_among at key low high (1 ∷ 2 ∷ 4 ∷ 8 ∷ [])
choice_of at key (OneOf numbers) = None

-- the entries that the first bound that can chooses
abbrev pub chosen : PlainSum → List Bound → Option Choice
chosen at [] = None
chosen at (b ∷ bs) = option_or (choice_of at b.key b.set) (chosen at bs)

-- the numbers of chosen entries of a width, with a sign or without
abbrev pub values_of : Image → Width → Bool → Choice → Option (List ℕ)
values_of image w signed c =
    table_values image (record { width = w; signed = signed; base = c.base; scale = c.scale }) c.low c.high

-- the numbers of which a load from an address gives one; None where the bounds choose no table of fixed entries
abbrev pub chosen_values : Image → PlainSum → Width → Bool → List Bound → Option (List ℕ)
chosen_values image at w signed bounds = option_and_then (values_of image w signed) (chosen at bounds)

-- ---- which loads

-- numbers, where a term is unknown
abbrev pub if_unknown : Option PlainSum → Option (List ℕ) → Option (List ℕ)
if_unknown None numbers = numbers
if_unknown (Some t) numbers = None

-- the numbers of which a load from an address gives one, where neither fixed bytes nor a cell with a value give it
abbrev pub loaded_values : View → Predicate → Width → Bool → Option PlainSum → Option (List ℕ)
loaded_values v p w signed None = None
loaded_values v p w signed (Some at) =
    if_unknown (bytes_term v p.forest (bytes_of w) (Some at)) (chosen_values v.known.image at w signed p.bounds)

-- whether an entry fills a register of a width: 64 bits, or 32 without a sign
abbrev pub takes_entry : Bool → Width → Bool
takes_entry signed W8 = false
takes_entry signed W16 = false
takes_entry signed W32 = not signed
takes_entry signed W64 = true

-- the numbers of which the second operand is one, at a load into a register that an entry fills
abbrev pub table_of : View → Instr → Predicate → Bool → Option (List ℕ)
table_of v i p signed =
    if takes_entry signed i.width && is_low_register i.dst
    then loaded_values v p i.src_width signed (address_term_of p i.src)
    else None

-- the predicate in which the site's name is one of the numbers; where 16 bounds stand that is not added
abbrev pub with_values : Instr → List ℕ → Predicate → Predicate
with_values i numbers p = record p { bounds = with_bound (name_term i) (OneOf numbers) p.bounds }

-- ---- where a jump leads

-- the targets of a jump, by a bound
abbrev pub targets_of : Image → PlainSum → PlainSum → Values → Option (List ℕ)
targets_of image jump key (Range low high) = None
targets_of image jump key (OneOf numbers) = targets image jump key numbers

-- the targets of a jump, by the first bound that tells them
abbrev pub chosen_targets : Image → PlainSum → List Bound → Option (List ℕ)
chosen_targets image jump [] = None
chosen_targets image jump (b ∷ bs) =
    option_or (targets_of image jump b.key b.set) (chosen_targets image jump bs)
