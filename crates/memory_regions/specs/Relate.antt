-- How one region of memory lies to another: by the difference of their addresses, else by the frame or a listed pair.
use Rattle.std.specs.Prelude.{ℕ, ◌+◌, ◌-◌, ◌%◌, ◌^◌, Bool, false, ◌&&◌, ◌||◌, ◌==◌, nat_le, nat_lt, if◌then◌else◌, Option, Some, None, List}
use Rattle.std.specs.Ordering.{is_eq}
use Rattle.std.specs.List.{list_any}
use Rattle.elf_image.specs.declared.image.Image.{Image}
use Rattle.elf_image.specs.Image.{covers_bytes}
use Rattle.sym_terms.specs.declared.kinds.Sym.TheVariants.{Entry}
use Rattle.sym_terms.specs.Plain.{PlainSum, sum, none, more, PlainAtom, symbol, fitted, paired, constant_alone}
use Rattle.sym_terms.specs.Order.{sum_cmp, sym_cmp}
use Rattle.sym_terms.specs.Normal.{minus}
use Rattle.memory_regions.specs.declared.region.Region.{Region}
use Rattle.memory_regions.specs.declared.region.Relation.{Relation}
use Rattle.memory_regions.specs.declared.region.Relation.TheVariants.{Alias, Separate, Inside, Around, Overlap, Unknown}

-- ---- by numbers

-- the distance modulo 2^64 from y to x, where d is that from x to y
abbrev pub opposite : ℕ → ℕ
opposite d = (2 ^ 64 - d) % 2 ^ 64

-- how a bytes lie to b bytes that begin d after them and e before them, modulo 2^64
abbrev pub by_distances : ℕ → ℕ → ℕ → ℕ → Relation
by_distances d e a b =
    if (d == 0) && (a == b) then Alias
    else if nat_le a d && nat_le b e then Separate
    else if nat_le (d + b) a then Around
    else if nat_le (e + a) b then Inside
    else Overlap

-- how a bytes lie to b bytes that begin d after them, modulo 2^64
abbrev pub by_offset : ℕ → ℕ → ℕ → Relation
by_offset d a b = by_distances d (opposite d) a b

-- ---- by terms

-- what is assumed at a site: the executable, the frame's bytes below and above the entry's stack pointer, and the
-- pairs of regions that are taken as separate
pub record Known : Type 0 where
  pub image : Image
  pub below : ℕ
  pub above : ℕ
  pub seps : List (Region × Region)

-- whether two terms are the same
abbrev pub same : PlainSum → PlainSum → Bool
same s t = is_eq (sum_cmp s t)

-- whether an atom is rsp0
abbrev pub is_stack : PlainAtom → Bool
is_stack (symbol s) = is_eq (sym_cmp s (Entry 4))
is_stack (fitted f a) = false
is_stack (paired p a b) = false

-- the distance from rsp0 to a term, modulo 2^64, where it is constant
abbrev pub above_stack : PlainSum → Option ℕ
above_stack (sum c none) = None
above_stack (sum c (more a k none)) = if is_stack a && (k == 1) then Some c else None
above_stack (sum c (more a k (more b l ys))) = None

-- whether a bytes from rsp0 + c on, c read with its sign, lie in the frame
abbrev pub in_frame : ℕ → ℕ → ℕ → ℕ → Bool
in_frame below above c a =
    if nat_lt c (2 ^ 63) then nat_le (c + a) above else nat_le (2 ^ 64 - c) below && nat_le (c + a) (above + 2 ^ 64)

-- whether the first region lies in the frame, and the second, of at least one byte, in one segment
abbrev pub frame_and_constant : Known → Option ℕ → ℕ → Option ℕ → ℕ → Bool
frame_and_constant k (Some c) a (Some d) b =
    in_frame k.below k.above c a && (nat_le 1 b && covers_bytes k.image d b)
frame_and_constant k (Some c) a None b = false
frame_and_constant k None a d b = false

-- whether a bytes at x lie in the frame, and b bytes at y in one segment
abbrev pub framed : Known → PlainSum → ℕ → PlainSum → ℕ → Bool
framed k x a y b = frame_and_constant k (above_stack x) a (constant_alone y) b

-- whether a region is that of an address and a size
abbrev pub is_region : Region → PlainSum → ℕ → Bool
is_region r x a = (r.bytes == a) && same r.at x

-- whether a pair is that of two regions, in either order
abbrev pub is_pair : Region × Region → PlainSum → ℕ → PlainSum → ℕ → Bool
is_pair p x a y b = (is_region p.0 x a && is_region p.1 y b) || (is_region p.0 y b && is_region p.1 x a)

-- whether a list has two regions as a pair
abbrev pub listed : List (Region × Region) → PlainSum → ℕ → PlainSum → ℕ → Bool
listed seps x a y b = list_any (λ p. is_pair p x a y b) seps

-- whether the frame or a listed pair tells two regions apart
abbrev pub told_apart : Known → PlainSum → ℕ → PlainSum → ℕ → Bool
told_apart k x a y b = framed k x a y b || (framed k y b x a || listed k.seps x a y b)

-- by the difference of the addresses where it is constant, else Separate where they are told apart
abbrev pub by_difference : Known → PlainSum → ℕ → PlainSum → ℕ → Option ℕ → Relation
by_difference k x a y b (Some d) = by_offset d a b
by_difference k x a y b None = if told_apart k x a y b then Separate else Unknown

-- how a bytes at x lie to b bytes at y
unfoldable pub relate : Known → PlainSum → ℕ → PlainSum → ℕ → Relation
relate k x a y b = by_difference k x a y b (constant_alone (minus y x))
