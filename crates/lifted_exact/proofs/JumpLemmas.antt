-- How many cases an instruction has that goes on.
use Rattle.std.proofs.Common.{◌≡◌, ℕ, Bool, true, false, List, [], ◌∷◌, map, length, Option, Some, None, refl, sym, ap, ◌∙◌, subst, arith, leb-true}
use Rattle.std.specs.Prelude.{if◌then◌else◌, nat_le}
use Rattle.std.specs.List.{list_all}
use Rattle.std.specs.Option.{option_map, option_and_then}
use Rattle.std.proofs.lemmas.Bool.{and_parts}
use Rattle.bits_core.specs.declared.width.Width.{Width}
use Rattle.bits_core.specs.declared.width.Width.TheVariants.{W64}
use Rattle.bits_core.specs.Width.{bytes_of}
use Rattle.elf_image.specs.declared.image.Image.{Image}
use Rattle.elf_image.specs.Image.{is_code_at}
use Rattle.sym_terms.specs.Plain.{PlainSum, constant_alone}
use Rattle.sym_terms.specs.Normal.{minus}
use Rattle.jump_tables.specs.Targets.{address_after, code_after, targets}
use Rattle.predicates.specs.Predicate.{Predicate}
use Rattle.predicates.specs.declared.bound.Values.{Values}
use Rattle.predicates.specs.declared.bound.Values.TheVariants.{Range, OneOf}
use Rattle.predicates.specs.declared.bound.Bound.{Bound}
use Rattle.x86_instr.specs.declared.class.Class.{Class}
use Rattle.x86_instr.specs.declared.class.Class.TheVariants as class
use Rattle.x86_instr.specs.declared.instr.Operand.{Operand}
use Rattle.x86_instr.specs.declared.instr.Operand.TheVariants as operand
use Rattle.x86_instr.specs.declared.instr.Instr.{Instr}
use Rattle.x86_instr.specs.Groups.{Group, Calculates, Moves, Stacks, Controls, group_of}
use Rattle.x86_instr.specs.Groups.{Control, Branching, Jumping, Calling, Returning, Passing, Asking, Stopping}
use Rattle.step_rules.specs.View.{View}
use Rattle.step_rules.specs.Names.{name_term}
use Rattle.step_rules.specs.Drop.{dropped}
use Rattle.step_rules.specs.Access.{read_term, after_read, loaded_from, address_term_of, bytes_term}
use Rattle.step_rules.specs.Tables.{if_unknown, loaded_values, with_values, targets_of, chosen_targets, chosen_values}
use Rattle.step_rules.specs.Cases.{Case, case, goes_on, constant_target, jump_targets, cases_to, jumped, jumps_to, jumps, control_cases, jump_cases_in, cases_by}
use Rattle.lifted_exact.proofs.CountLemmas.{AreFew, AreCounted, counted, bound_counted, chosen_few, first_or, mapped_few}
use Rattle.lifted_exact.proofs.CaseLemmas.{long_map}

-- ---- targets

code_few : (image : Image) (c : ℕ) (numbers ns : List ℕ) → AreFew numbers → code_after image c numbers ≡ Some ns → AreFew ns
code_few image c numbers ns h e =
    elim (list_all (λ n. is_code_at image (address_after c n)) numbers) as (λ b. (if b then Some (map (address_after c) numbers) else None) ≡ Some ns → AreFew ns) [
      | true ↦ λ k.
          let s : map (address_after c) numbers ≡ ns = cc in
          let long = long_map (address_after c) numbers in
          let p = h.0 in
          let q = h.1 in
          subst (λ (xs : List ℕ). AreFew xs) s (omega (arith, long, p), omega (arith, long, q))
      | false ↦ λ k. absurd (let f : ⊥ = cc in f)
    ] e

targets_few : (image : Image) (jump key : PlainSum) (numbers ns : List ℕ) → AreFew numbers → targets image jump key numbers ≡ Some ns → AreFew ns
targets_few image jump key numbers ns h e =
    mapped_few (option_and_then (λ c. code_after image c numbers) (constant_alone (minus jump key))) ns (by (constant_alone (minus jump key))) e
  where
    by : (o : Option ℕ) (ms : List ℕ) → option_and_then (λ c. code_after image c numbers) o ≡ Some ms → AreFew ms
    by None ms e = absurd (let f : ⊥ = cc in f)
    by (Some c) ms e = code_few image c numbers ms h e

values_few : (image : Image) (jump key : PlainSum) (v : Values) (ns : List ℕ) → counted v ≡ true → targets_of image jump key v ≡ Some ns → AreFew ns
values_few image jump key (Range low high) ns h e = absurd (let f : ⊥ = cc in f)
values_few image jump key (OneOf numbers) ns h e =
    let a = and_parts (nat_le 1 (length numbers)) (nat_le (length numbers) 1024) h in
    targets_few image jump key numbers ns (leb-true 1 (length numbers) a.0, leb-true (length numbers) 1024 a.1) e

chosen_targets_few : (image : Image) (jump : PlainSum) (bounds : List Bound) (ns : List ℕ) → AreCounted bounds → chosen_targets image jump bounds ≡ Some ns → AreFew ns
chosen_targets_few image jump [] ns h e = absurd (let f : ⊥ = cc in f)
chosen_targets_few image jump (b ∷ bs) ns h e =
    let a = and_parts (counted b.set) (list_all (λ b. counted b.set) bs) h in
    first_or (λ (xs : List ℕ). AreFew xs) (targets_of image jump b.key b.set) (chosen_targets image jump bs) (λ ms m. values_few image jump b.key b.set ms a.0 m) (λ ms m. chosen_targets_few image jump bs ms a.1 m) ns e

constant_few : (v : View) (o : Option ℕ) (ns : List ℕ) → constant_target v o ≡ Some ns → AreFew ns
constant_few v None ns e = absurd (let f : ⊥ = cc in f)
constant_few v (Some c) ns e =
    elim (is_code_at v.known.image c) as (λ b. (if b then Some (c ∷ []) else None) ≡ Some ns → AreFew ns) [
      | true ↦ λ k. let s : c ∷ [] ≡ ns = cc in subst (λ (xs : List ℕ). AreFew xs) s (omega arith, omega arith)
      | false ↦ λ k. absurd (let f : ⊥ = cc in f)
    ] e

jump_targets_few : (v : View) (p : Predicate) (t : Option PlainSum) (ns : List ℕ) → AreCounted p.bounds → jump_targets v p t ≡ Some ns → AreFew ns
jump_targets_few v p None ns h e = absurd (let f : ⊥ = cc in f)
jump_targets_few v p (Some t) ns h e =
    first_or (λ (xs : List ℕ). AreFew xs) (constant_target v (constant_alone t)) (chosen_targets v.known.image t p.bounds) (λ ms m. constant_few v (constant_alone t) ms m) (λ ms m. chosen_targets_few v.known.image t p.bounds ms h m) ns e

cases_to_few : (v : View) (p : Predicate) (t : Option PlainSum) (cs : List Case) → AreCounted p.bounds → cases_to v p t ≡ Some cs → AreFew cs
cases_to_few v p t cs h e = by (jump_targets v p t) (λ ns m. jump_targets_few v p t ns h m) e
  where
    by : (o : Option (List ℕ)) → ((ns : List ℕ) → o ≡ Some ns → AreFew ns) → option_map (map (λ a. case a p)) o ≡ Some cs → AreFew cs
    by None k e = absurd (let f : ⊥ = cc in f)
    by (Some ns) k e =
        let s : map (λ a. case a p) ns ≡ cs = cc in
        let few = k ns refl in
        let a = few.0 in
        let b = few.1 in
        let long = long_map (λ a. case a p) ns in
        subst (λ (xs : List Case). AreFew xs) s (omega (arith, long, a), omega (arith, long, b))

-- ---- jumps

loaded_bounds : (v : View) (i : Instr) (p : Predicate) (w : Width) (at : Option PlainSum) → (loaded_from v i p w at).bounds ≡ p.bounds
loaded_bounds v i p w None = refl
loaded_bounds v i p w (Some at) = refl

read_bounds : (v : View) (i : Instr) (p : Predicate) (w : Width) (o : Operand) → (after_read v i p w o).bounds ≡ p.bounds
unfolding after_read
read_bounds v i p w o = loaded_bounds v i p w (address_term_of p o)

unknown_few : (t : Option PlainSum) (o : Option (List ℕ)) (ns : List ℕ) → ((ms : List ℕ) → o ≡ Some ms → AreFew ms) → if_unknown t o ≡ Some ns → AreFew ns
unknown_few None o ns h e = h ns e
unknown_few (Some t) o ns h e = absurd (let f : ⊥ = cc in f)

loaded_few : (v : View) (p : Predicate) (w : Width) (signed : Bool) (at : Option PlainSum) (ns : List ℕ) → AreCounted p.bounds → loaded_values v p w signed at ≡ Some ns → AreFew ns
loaded_few v p w signed None ns h e = absurd (let f : ⊥ = cc in f)
loaded_few v p w signed (Some at) ns h e =
    unknown_few (bytes_term v p.forest (bytes_of w) (Some at)) (chosen_values v.known.image at w signed p.bounds) ns (λ ms m. chosen_few v.known.image at w signed p.bounds ms h m) e

jumped_few : (v : View) (i : Instr) (p : Predicate) (o : Option (List ℕ)) (t : Option PlainSum) (cs : List Case) → AreCounted p.bounds → ((ns : List ℕ) → o ≡ Some ns → AreFew ns) → jumped v i p o t ≡ Some cs → AreFew cs
jumped_few v i p None t cs h k e = cases_to_few v p t cs h e
jumped_few v i p (Some numbers) t cs h k e = cases_to_few v (with_values i numbers p) (Some (name_term i)) cs (bound_counted (name_term i) numbers p.bounds (k numbers refl) h) e

jumps_to_few : (v : View) (i : Instr) (p : Predicate) (o : Operand) (cs : List Case) → AreCounted p.bounds → jumps_to v i p o ≡ Some cs → AreFew cs
jumps_to_few v i p o cs h e =
    jumped_few v i (after_read v i p W64 o) (loaded_values v p W64 false (address_term_of p o)) (read_term v i p W64 o) cs
    (subst AreCounted (sym (read_bounds v i p W64 o)) h) (λ ns m. loaded_few v p W64 false (address_term_of p o) ns h m) e

one_few : {X : Type 0} (x : X) (cs : List X) → Some (x ∷ []) ≡ Some cs → AreFew cs
one_few {X} x cs e = let s : x ∷ [] ≡ cs = cc in subst (λ (xs : List X). AreFew xs) s (omega arith, omega arith)

two_few : {X : Type 0} (x y : X) (cs : List X) → Some (x ∷ y ∷ []) ≡ Some cs → AreFew cs
two_few {X} x y cs e = let s : x ∷ y ∷ [] ≡ cs = cc in subst (λ (xs : List X). AreFew xs) s (omega arith, omega arith)

jumps_few : (v : View) (i : Instr) (p : Predicate) (o : Operand) (cs : List Case) → AreCounted p.bounds → jumps v i p o ≡ Some cs → AreFew cs
jumps_few v i p operand.None cs h e = jumps_to_few v i p operand.None cs h e
jumps_few v i p (operand.Reg r) cs h e = jumps_to_few v i p (operand.Reg r) cs h e
jumps_few v i p (operand.High r) cs h e = jumps_to_few v i p (operand.High r) cs h e
jumps_few v i p (operand.Imm n) cs h e = one_few (case n p) cs e
jumps_few v i p (operand.Mem pl) cs h e = jumps_to_few v i p (operand.Mem pl) cs h e

control_few : (c : Control) (v : View) (i : Instr) (p : Predicate) (cs : List Case) → AreCounted p.bounds → control_cases c v i p ≡ Some cs → AreFew cs
control_few Branching v i p cs h e = two_few _ _ cs e
control_few Jumping v i p cs h e = jumps_few v i p i.dst cs h e
control_few Calling v i p cs h e = absurd (let f : ⊥ = cc in f)
control_few Returning v i p cs h e = absurd (let f : ⊥ = cc in f)
control_few Passing v i p cs h e = absurd (let f : ⊥ = cc in f)
control_few Asking v i p cs h e = absurd (let f : ⊥ = cc in f)
control_few Stopping v i p cs h e = absurd (let f : ⊥ = cc in f)

group_few : (g : Group) (v : View) (i : Instr) (p : Predicate) (cs : List Case) → AreCounted p.bounds → jump_cases_in g v i p ≡ Some cs → AreFew cs
group_few (Calculates a) v i p cs h e = absurd (let f : ⊥ = cc in f)
group_few (Moves m) v i p cs h e = absurd (let f : ⊥ = cc in f)
group_few (Stacks s) v i p cs h e = absurd (let f : ⊥ = cc in f)
group_few (Controls c) v i p cs h e = control_few c v i p cs h e

-- ---- instructions

-- whether an instruction of the class ends the way: it returns or stops
abbrev pub ends : Class → Bool
ends class.Calculation = false
ends class.Transfer = false
ends class.Division = false
ends class.Jump = false
ends class.Call = false
ends class.Return = true
ends class.SystemCall = false
ends class.Stop = true

pub class_few : (c : Class) (v : View) (i : Instr) (p : Predicate) (cs : List Case) → v.fork ≡ None → ends c ≡ false → AreCounted (dropped i p).bounds → cases_by c v i p ≡ Some cs → AreFew cs
class_few class.Calculation v i p cs n k h e = one_few _ cs (sym (ap (λ o. Some (goes_on v i (dropped i p) o)) n) ∙ e)
class_few class.Transfer v i p cs n k h e = one_few _ cs (sym (ap (λ o. Some (goes_on v i (dropped i p) o)) n) ∙ e)
class_few class.Division v i p cs n k h e = one_few _ cs (sym (ap (λ o. Some (goes_on v i (dropped i p) o)) n) ∙ e)
class_few class.Jump v i p cs n k h e = group_few (group_of i.op) v i (dropped i p) cs h e
class_few class.Call v i p cs n k h e = one_few _ cs e
class_few class.Return v i p cs n k h e = absurd (let f : ⊥ = cc in f)
class_few class.SystemCall v i p cs n k h e = one_few _ cs e
class_few class.Stop v i p cs n k h e = absurd (let f : ⊥ = cc in f)
