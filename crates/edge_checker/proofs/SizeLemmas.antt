-- No step changes how many registers a predicate tells of.
use Rattle.std.proofs.Common.{◌≡◌, ℕ, false, List, [], ◌∷◌, map, length, Some, None, Option, refl, ◌∙◌, subst}
use Rattle.std.specs.Option.{option_map}
use Rattle.std.proofs.lemmas.List.{length-map, length-set}
use Rattle.bits_core.specs.declared.width.Width.{Width}
use Rattle.bits_core.specs.declared.width.Width.TheVariants.{W64}
use Rattle.sym_terms.specs.Plain.{PlainSum}
use Rattle.memory_regions.specs.declared.region.Region.{Region}
use Rattle.predicates.specs.Predicate.{Predicate}
use Rattle.predicates.specs.declared.bound.FlagFact.{FlagFact}
use Rattle.graph_data.specs.Parts.{Each}
use Rattle.x86_instr.specs.declared.class.Class.{Class}
use Rattle.x86_instr.specs.declared.class.Class.TheVariants as class
use Rattle.x86_instr.specs.declared.instr.Operand.{Operand}
use Rattle.x86_instr.specs.declared.instr.Operand.TheVariants as operand
use Rattle.x86_instr.specs.declared.instr.Instr.{Instr}
use Rattle.x86_instr.specs.Classes.{class_of}
use Rattle.x86_instr.specs.Registers.{rax, rdx, rsp, rbp}
use Rattle.x86_instr.specs.Groups.{Group, Calculates, Moves, Stacks, Controls, group_of}
use Rattle.x86_instr.specs.Groups.{Arithmetic, Combining, Comparing, Inverting, Negating, Counting, Multiplying, Dividing, Scaling, ScalingBy, Shifting}
use Rattle.x86_instr.specs.Groups.{Movement, Copying, ExtendingZeros, ExtendingSign, Addressing, Exchanging, Widening, SignFilling, Swapping, Choosing, Setting}
use Rattle.x86_instr.specs.Groups.{StackMove, Pushing, Popping, Leaving}
use Rattle.x86_instr.specs.Groups.{Control, Branching, Jumping, Calling, Returning, Passing, Asking, Stopping}
use Rattle.x86_machine.specs.Next.{next_address}
use Rattle.step_rules.specs.View.{View, parted}
use Rattle.step_rules.specs.Drop.{dropped, term_without}
use Rattle.step_rules.specs.Names.{name, name_term}
use Rattle.step_rules.specs.Access.{with_register, loaded_from, after_read, with_bytes, write_term, address_term_of, read_term, register}
use Rattle.step_rules.specs.Steps.{with_flags, gives, with_halves}
use Rattle.step_rules.specs.Moves.{by_table, rsp_popped, quad_at}
use Rattle.step_rules.specs.Terms.{plus_number}
use Rattle.step_rules.specs.Tables.{with_values, loaded_values}
use Rattle.step_rules.specs.Bounds.{where_holds}
use Rattle.step_rules.specs.Executed.{calculated, transferred, stacked, executed_in}
use Rattle.step_rules.specs.Calls.{begun, begin, cleared, changed_by, with_kept, came_back, after}
use Rattle.step_rules.specs.Cases.{Case, case, aliased, goes_on, branches, jump_targets, jumped, jumps_to, jumps, control_cases, jump_cases_in, cases_by, cases}

-- how many registers a predicate tells of
abbrev size : Predicate → ℕ
size p = length p.regs

-- ---- the parts of a step

with_register-size : (p : Predicate) (r : ℕ) (t : Option PlainSum) → size (with_register p r t) ≡ size p
unfolding with_register
with_register-size p r t = length-set p.regs r t

loaded_from-size : (v : View) (i : Instr) (p : Predicate) (w : Width) (at : Option PlainSum) → size (loaded_from v i p w at) ≡ size p
loaded_from-size v i p w None = refl
loaded_from-size v i p w (Some at) = refl

after_read-size : (v : View) (i : Instr) (p : Predicate) (w : Width) (o : Operand) → size (after_read v i p w o) ≡ size p
unfolding after_read
after_read-size v i p w o = loaded_from-size v i p w (address_term_of p o)

with_bytes-size : (v : View) (p : Predicate) (n : ℕ) (at t : Option PlainSum) → size (with_bytes v p n at t) ≡ size p
unfolding with_bytes
with_bytes-size v p n None t = refl
with_bytes-size v p n (Some at) t = refl

write_term-size : (v : View) (i : Instr) (p : Predicate) (w : Width) (o : Operand) (t : Option PlainSum) → size (write_term v i p w o t) ≡ size p
unfolding write_term
write_term-size v i p w operand.None t = refl
write_term-size v i p w (operand.Reg r) t = with_register-size p r _
write_term-size v i p w (operand.High r) t = with_register-size p r _
write_term-size v i p w (operand.Imm n) t = refl
write_term-size v i p w (operand.Mem pl) t = with_bytes-size v p _ _ t

with_flags-size : (p : Predicate) (f : Option FlagFact) → size (with_flags p f) ≡ size p
unfolding with_flags
with_flags-size p f = refl

where_holds-size : (cc : ℕ) (p : Predicate) → size (where_holds cc p) ≡ size p
unfolding where_holds
where_holds-size cc p = refl

dropped-size : (i : Instr) (p : Predicate) → size (dropped i p) ≡ size p
dropped-size i p = length-map p.regs (term_without (name i))

-- ---- instructions that go on

gives-size : (v : View) (i : Instr) (p : Predicate) (t : Option PlainSum) (f : Option FlagFact) → size (gives v i p t f) ≡ size p
gives-size v i p t f = with_flags-size (write_term v i p i.width i.dst t) f ∙ write_term-size v i p i.width i.dst t

halves-size : (v : View) (i : Instr) (p : Predicate) → size (with_flags (with_halves v i p) None) ≡ size p
halves-size v i p =
    with_flags-size (with_halves v i p) None
    ∙ write_term-size v i (write_term v i p i.width (operand.Reg rax) None) i.width (operand.Reg rdx) None
    ∙ write_term-size v i p i.width (operand.Reg rax) None

calculated-size : (a : Arithmetic) (v : View) (i : Instr) (p : Predicate) → size (calculated a v i p) ≡ size p
calculated-size (Combining o) v i p = gives-size v i p _ _
calculated-size (Comparing o) v i p =
    with_flags-size (after_read v i (after_read v i p i.width i.dst) i.width i.src) _
    ∙ after_read-size v i (after_read v i p i.width i.dst) i.width i.src ∙ after_read-size v i p i.width i.dst
calculated-size Inverting v i p = write_term-size v i p i.width i.dst _
calculated-size Negating v i p = gives-size v i p _ _
calculated-size (Counting o) v i p = gives-size v i p _ _
calculated-size Multiplying v i p = halves-size v i p
calculated-size Dividing v i p = halves-size v i p
calculated-size Scaling v i p = gives-size v i p _ _
calculated-size ScalingBy v i p = gives-size v i p _ _
calculated-size (Shifting o) v i p = gives-size v i p _ _

by_table-size : (v : View) (i : Instr) (p : Predicate) (o : Option (List ℕ)) (t : Option PlainSum) → size (by_table v i p o t) ≡ size p
by_table-size v i p None t = write_term-size v i p i.width i.dst t
by_table-size v i p (Some numbers) t = write_term-size v i (with_values i numbers p) i.width i.dst None

read-size : (v : View) (i : Instr) (p : Predicate) (o : Option (List ℕ)) (t : Option PlainSum) → size (by_table v i (after_read v i p i.src_width i.src) o t) ≡ size p
read-size v i p o t = by_table-size v i (after_read v i p i.src_width i.src) o t ∙ after_read-size v i p i.src_width i.src

transferred-size : (m : Movement) (v : View) (i : Instr) (p : Predicate) → size (transferred m v i p) ≡ size p
transferred-size Copying v i p = read-size v i p _ _
transferred-size ExtendingZeros v i p = read-size v i p _ _
transferred-size ExtendingSign v i p = read-size v i p _ _
transferred-size Addressing v i p = write_term-size v i p i.width i.dst _
transferred-size Exchanging v i p =
    let read = after_read v i p i.width i.dst in
    write_term-size v i (write_term v i read i.width i.dst (read_term v i p i.width i.src)) i.width i.src _
    ∙ write_term-size v i read i.width i.dst _ ∙ after_read-size v i p i.width i.dst
transferred-size Widening v i p = write_term-size v i p i.width (operand.Reg rax) _
transferred-size SignFilling v i p = write_term-size v i p i.width (operand.Reg rdx) _
transferred-size Swapping v i p = write_term-size v i p i.width i.dst _
transferred-size Choosing v i p = write_term-size v i p i.width i.dst _
transferred-size Setting v i p = write_term-size v i p _ i.dst _

stacked-size : (s : StackMove) (v : View) (i : Instr) (p : Predicate) → size (stacked s v i p) ≡ size p
stacked-size Pushing v i p =
    with_register-size _ rsp _ ∙ with_bytes-size v _ 8 _ _ ∙ after_read-size v i p _ i.dst
stacked-size Popping v i p =
    write_term-size v i (rsp_popped v i p) W64 i.dst _
    ∙ with_register-size (loaded_from v i p W64 (register p rsp)) rsp (plus_number 8 (register p rsp)) ∙ loaded_from-size v i p W64 (register p rsp)
stacked-size Leaving v i p =
    let read = loaded_from v i p W64 (register p rbp) in
    let up = plus_number 8 (register p rbp) in
    with_register-size (with_register read rsp up) rbp (quad_at v i p (register p rbp)) ∙ with_register-size read rsp up ∙ loaded_from-size v i p W64 (register p rbp)

executed-size : (g : Group) (v : View) (i : Instr) (p : Predicate) → size (executed_in g v i p) ≡ size p
executed-size (Calculates a) v i p = calculated-size a v i p
executed-size (Moves m) v i p = transferred-size m v i p
executed-size (Stacks s) v i p = stacked-size s v i p
executed-size (Controls c) v i p = refl

-- ---- calls

begun-size : (c : Class) (v : View) (i : Instr) (p : Predicate) → size (begun c v i p) ≡ size p
begun-size class.Calculation v i p = refl
begun-size class.Transfer v i p = refl
begun-size class.Division v i p = refl
begun-size class.Jump v i p = refl
begun-size class.Call v i p = with_bytes-size v p 8 _ _
begun-size class.Return v i p = refl
begun-size class.SystemCall v i p = refl
begun-size class.Stop v i p = refl

cleared-size : (rs : List ℕ) (p : Predicate) → size (cleared rs p) ≡ size p
cleared-size [] p = refl
cleared-size (r ∷ rs) p = cleared-size rs (with_register p r None) ∙ with_register-size p r None

after-size : (v : View) (i : Instr) (p : Predicate) → size (after v i p) ≡ size p
after-size v i p =
    with_register-size (dropped i (came_back v i p)) rax (Some (name_term i)) ∙ dropped-size i (came_back v i p)
    ∙ with_flags-size (with_kept v (cleared (changed_by (class_of i.op)) (begin v i p))) None
    ∙ cleared-size (changed_by (class_of i.op)) (begin v i p) ∙ begun-size (class_of i.op) v i (dropped i p) ∙ dropped-size i p

-- ---- cases

-- the predicate of a case tells of so many registers
abbrev pub HasSize : ℕ → Case → Type 0
HasSize n c = size c.pred ≡ n

goes_on-sized : (n : ℕ) (v : View) (i : Instr) (p : Predicate) (fork : Option (Region × Region)) → size p ≡ n → Each (HasSize n) (goes_on v i p fork)
goes_on-sized n v i p None e = (executed-size (group_of i.op) v i p ∙ e, tt)
goes_on-sized n v i p (Some pair) e = (
  executed-size (group_of i.op) v i (aliased p pair) ∙ e,
  (
    executed-size (group_of i.op) (parted v pair) i p ∙ e,
    (executed-size (group_of i.op) v i p ∙ e, tt),
  ),
)

-- the cases that are known
known : (n : ℕ) (cs ds : List Case) → Each (HasSize n) cs → Some cs ≡ Some ds → Each (HasSize n) ds
known n cs ds each e = let same : cs ≡ ds = cc in subst (Each (HasSize n)) same each

each_to : (n : ℕ) (p : Predicate) (addresses : List ℕ) → size p ≡ n → Each (HasSize n) (map (λ a. case a p) addresses)
each_to n p [] e = tt
each_to n p (a ∷ addresses) e = (e, each_to n p addresses e)

led_to : (n : ℕ) (p : Predicate) (o : Option (List ℕ)) (cs : List Case) → size p ≡ n → option_map (map (λ a. case a p)) o ≡ Some cs → Each (HasSize n) cs
led_to n p None cs e led = absurd (cc)
led_to n p (Some addresses) cs e led = known n (map (λ a. case a p) addresses) cs (each_to n p addresses e) led

jumped-sized : (n : ℕ) (v : View) (i : Instr) (p : Predicate) (o : Option (List ℕ)) (t : Option PlainSum) (cs : List Case) → size p ≡ n → jumped v i p o t ≡ Some cs → Each (HasSize n) cs
jumped-sized n v i p None t cs e led = led_to n p (jump_targets v p t) cs e led
jumped-sized n v i p (Some numbers) t cs e led =
    led_to n (with_values i numbers p) (jump_targets v (with_values i numbers p) (Some (name_term i))) cs e led

jumps_to-sized : (n : ℕ) (v : View) (i : Instr) (p : Predicate) (o : Operand) (cs : List Case) → size p ≡ n → jumps_to v i p o ≡ Some cs → Each (HasSize n) cs
jumps_to-sized n v i p o cs e led =
    jumped-sized n v i (after_read v i p W64 o) (loaded_values v p W64 false (address_term_of p o)) (read_term v i p W64 o) cs (after_read-size v i p W64 o ∙ e) led

jumps-sized : (n : ℕ) (v : View) (i : Instr) (p : Predicate) (o : Operand) (cs : List Case) → size p ≡ n → jumps v i p o ≡ Some cs → Each (HasSize n) cs
jumps-sized n v i p operand.None cs e led = jumps_to-sized n v i p operand.None cs e led
jumps-sized n v i p (operand.Reg r) cs e led = jumps_to-sized n v i p (operand.Reg r) cs e led
jumps-sized n v i p (operand.High r) cs e led = jumps_to-sized n v i p (operand.High r) cs e led
jumps-sized n v i p (operand.Imm k) cs e led = known n (case k p ∷ []) cs (e, tt) led
jumps-sized n v i p (operand.Mem pl) cs e led = jumps_to-sized n v i p (operand.Mem pl) cs e led

control-sized : (n : ℕ) (c : Control) (v : View) (i : Instr) (p : Predicate) (cs : List Case) → size p ≡ n → control_cases c v i p ≡ Some cs → Each (HasSize n) cs
control-sized n Branching v i p cs e led = known n (branches v i p) cs (where_holds-size _ p ∙ e, (where_holds-size _ p ∙ e, tt)) led
control-sized n Jumping v i p cs e led = jumps-sized n v i p i.dst cs e led
control-sized n Calling v i p cs e led = absurd (cc)
control-sized n Returning v i p cs e led = absurd (cc)
control-sized n Passing v i p cs e led = absurd (cc)
control-sized n Asking v i p cs e led = absurd (cc)
control-sized n Stopping v i p cs e led = absurd (cc)

jump-sized : (n : ℕ) (g : Group) (v : View) (i : Instr) (p : Predicate) (cs : List Case) → size p ≡ n → jump_cases_in g v i p ≡ Some cs → Each (HasSize n) cs
jump-sized n (Calculates a) v i p cs e led = absurd (cc)
jump-sized n (Moves m) v i p cs e led = absurd (cc)
jump-sized n (Stacks s) v i p cs e led = absurd (cc)
jump-sized n (Controls c) v i p cs e led = control-sized n c v i p cs e led

class-sized : (n : ℕ) (c : Class) (v : View) (i : Instr) (p : Predicate) (cs : List Case) → size p ≡ n → cases_by c v i p ≡ Some cs → Each (HasSize n) cs
class-sized n class.Calculation v i p cs e led = known n _ cs (goes_on-sized n v i (dropped i p) v.fork (dropped-size i p ∙ e)) led
class-sized n class.Transfer v i p cs e led = known n _ cs (goes_on-sized n v i (dropped i p) v.fork (dropped-size i p ∙ e)) led
class-sized n class.Division v i p cs e led = known n _ cs (goes_on-sized n v i (dropped i p) v.fork (dropped-size i p ∙ e)) led
class-sized n class.Jump v i p cs e led = jump-sized n (group_of i.op) v i (dropped i p) cs (dropped-size i p ∙ e) led
class-sized n class.Call v i p cs e led = known n (case (next_address i) (after v i p) ∷ []) cs (after-size v i p ∙ e, tt) led
class-sized n class.Return v i p cs e led = known n [] cs tt led
class-sized n class.SystemCall v i p cs e led = known n (case (next_address i) (after v i p) ∷ []) cs (after-size v i p ∙ e, tt) led
class-sized n class.Stop v i p cs e led = known n [] cs tt led

-- the cases of an instruction tell of as many registers as what was known before it
pub cases_sized : (n : ℕ) (v : View) (i : Instr) (p : Predicate) (cs : List Case) → length p.regs ≡ n → cases v i p ≡ Some cs → Each (HasSize n) cs
cases_sized n v i p cs e led = class-sized n (class_of i.op) v i p cs e led
