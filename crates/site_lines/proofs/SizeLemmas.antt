-- The region of a store has a written size.
use Rattle.std.proofs.Common.{◌≡◌, ℕ, true, Some, None, refl, subst}
use Rattle.std.specs.Prelude.{IsTrue, Option}
use Rattle.std.specs.Option.{option_map}
use Rattle.bits_core.specs.declared.width.Width.{Width}
use Rattle.bits_core.specs.declared.width.Width.TheVariants.{W8, W16, W32, W64}
use Rattle.bits_core.specs.Width.{bytes_of}
use Rattle.sym_terms.specs.Plain.{PlainSum}
use Rattle.memory_regions.specs.declared.region.Region.{Region}
use Rattle.mem_forest.specs.Shape.{is_size}
use Rattle.predicates.specs.Predicate.{Predicate}
use Rattle.x86_instr.specs.declared.instr.Operand.{Operand}
use Rattle.x86_instr.specs.declared.instr.Operand.TheVariants as operand
use Rattle.x86_instr.specs.declared.instr.Instr.{Instr}
use Rattle.x86_instr.specs.Groups.{Group, Calculates, Moves, Stacks, Controls, group_of}
use Rattle.x86_instr.specs.Groups.{Arithmetic, Combining, Comparing, Inverting, Negating, Counting, Multiplying, Dividing, Scaling, ScalingBy, Shifting}
use Rattle.x86_instr.specs.Groups.{Movement, Copying, ExtendingZeros, ExtendingSign, Addressing, Exchanging, Widening, SignFilling, Swapping, Choosing, Setting}
use Rattle.x86_instr.specs.Groups.{StackMove, Pushing, Popping, Leaving}
use Rattle.x86_instr.specs.Groups.{Control, Branching, Jumping, Calling, Returning, Passing, Asking, Stopping}
use Rattle.step_rules.specs.Drop.{dropped}
use Rattle.step_rules.specs.Site.{region_of, place_region, push_region, calculation_region, movement_region, stack_region, control_region, store_region_in, store_region}

width_sized : (w : Width) → is_size (bytes_of w) ≡ true
width_sized W8 = refl
width_sized W16 = refl
width_sized W32 = refl
width_sized W64 = refl

-- a region that is made of an address and a size has the size
region_sized : (n : ℕ) (at : Option PlainSum) (r : Region) → is_size n ≡ true → option_map (region_of n) at ≡ Some r → is_size r.bytes ≡ true
region_sized n None r s e = absurd (let f : ⊥ = cc in f)
region_sized n (Some t) r s e = let g : region_of n t ≡ r = cc in subst (λ x. is_size x.bytes ≡ true) g s

none_sized : (r : Region) → None ≡ Some r → is_size r.bytes ≡ true
none_sized r e = absurd (let f : ⊥ = cc in f)

place_sized : (i : Instr) (p : Predicate) (o : Operand) (r : Region) → place_region i p o ≡ Some r → is_size r.bytes ≡ true
place_sized i p operand.None r e = none_sized r e
place_sized i p (operand.Reg n) r e = none_sized r e
place_sized i p (operand.High n) r e = none_sized r e
place_sized i p (operand.Imm n) r e = none_sized r e
place_sized i p (operand.Mem pl) r e = region_sized (bytes_of i.width) _ r (width_sized i.width) e

push_sized : (i : Instr) (p : Predicate) (r : Region) → push_region i p ≡ Some r → is_size r.bytes ≡ true
push_sized i p r e = region_sized 8 _ r refl e

calculation_sized : (a : Arithmetic) (i : Instr) (p : Predicate) (r : Region) → calculation_region a i p ≡ Some r → is_size r.bytes ≡ true
calculation_sized (Combining o) i p r e = place_sized i p i.dst r e
calculation_sized (Comparing o) i p r e = none_sized r e
calculation_sized Inverting i p r e = place_sized i p i.dst r e
calculation_sized Negating i p r e = place_sized i p i.dst r e
calculation_sized (Counting o) i p r e = place_sized i p i.dst r e
calculation_sized Multiplying i p r e = none_sized r e
calculation_sized Dividing i p r e = none_sized r e
calculation_sized Scaling i p r e = none_sized r e
calculation_sized ScalingBy i p r e = none_sized r e
calculation_sized (Shifting o) i p r e = place_sized i p i.dst r e

movement_sized : (m : Movement) (i : Instr) (p : Predicate) (r : Region) → movement_region m i p ≡ Some r → is_size r.bytes ≡ true
movement_sized Copying i p r e = place_sized i p i.dst r e
movement_sized ExtendingZeros i p r e = none_sized r e
movement_sized ExtendingSign i p r e = none_sized r e
movement_sized Addressing i p r e = none_sized r e
movement_sized Exchanging i p r e = place_sized i p i.dst r e
movement_sized Widening i p r e = none_sized r e
movement_sized SignFilling i p r e = none_sized r e
movement_sized Swapping i p r e = none_sized r e
movement_sized Choosing i p r e = none_sized r e
movement_sized Setting i p r e = place_sized i p i.dst r e

stack_sized : (s : StackMove) (i : Instr) (p : Predicate) (r : Region) → stack_region s i p ≡ Some r → is_size r.bytes ≡ true
stack_sized Pushing i p r e = push_sized i p r e
stack_sized Popping i p r e = none_sized r e
stack_sized Leaving i p r e = none_sized r e

control_sized : (c : Control) (i : Instr) (p : Predicate) (r : Region) → control_region c i p ≡ Some r → is_size r.bytes ≡ true
control_sized Branching i p r e = none_sized r e
control_sized Jumping i p r e = none_sized r e
control_sized Calling i p r e = push_sized i p r e
control_sized Returning i p r e = none_sized r e
control_sized Passing i p r e = none_sized r e
control_sized Asking i p r e = none_sized r e
control_sized Stopping i p r e = none_sized r e

group_sized : (g : Group) (i : Instr) (p : Predicate) (r : Region) → store_region_in g i p ≡ Some r → is_size r.bytes ≡ true
group_sized (Calculates a) i p r e = calculation_sized a i p r e
group_sized (Moves m) i p r e = movement_sized m i p r e
group_sized (Stacks s) i p r e = stack_sized s i p r e
group_sized (Controls c) i p r e = control_sized c i p r e

pub store_sized : (i : Instr) (p : Predicate) (r : Region) → store_region i p ≡ Some r → IsTrue (is_size r.bytes)
store_sized i p r e = group_sized (group_of i.op) i (dropped i p) r e
