-- The step law and the call laws of the small machine.
use Rattle.std.proofs.Common.{◌≡◌, ℕ, ◌+◌, ◌%◌, ◌^◌, ◌<◌, Bool, true, false, IsTrue, List, [], ◌∷◌, refl, sym, ◌∙◌, ap, subst, arith}
use Rattle.std.specs.Prelude.{◌==◌, ◌&&◌, ◌||◌, if◌then◌else◌, All, Some}
use Rattle.std.specs.List.{list_any}
use Rattle.std.proofs.lemmas.Bool.{eqb-true, eq-eqb, ne_eqb}
use Rattle.std.proofs.lemmas.List.Elements.{All-head, All-tail}
use Rattle.simulation.specs.Registers as register
use Rattle.simulation.specs.World.{View, Case, Ordinary}
use Rattle.simulation.specs.Moves.{renamed}
use Rattle.simulation.specs.Laws.{SomeCase, StepLaw, CallLaw, OutsideLaw, SyscallLaw}
use Rattle.simulation_example.specs.declared.machine.Instr.{Instr}
use Rattle.simulation_example.specs.declared.machine.Instr.TheVariants.{Nop, Draw, Swap, Branch, Call, Syscall, Ret}
use Rattle.simulation_example.specs.declared.machine.Image.{Image}
use Rattle.simulation_example.specs.declared.predicate.Term.{Term}
use Rattle.simulation_example.specs.declared.predicate.Term.TheVariants.{EntryRax, EntryRbx, Name, Unknown}
use Rattle.simulation_example.specs.declared.predicate.Region.{Region}
use Rattle.simulation_example.specs.declared.predicate.Pred.{Pred}
use Rattle.simulation_example.specs.Machine.{State, IsState, set, next_of, lowered, class_of, pushed, swapped, next, named_value}
use Rattle.simulation_example.specs.Predicate.{Valuation, named, HasValue, Fixed, Sat, forget_term, forget, step_of, is_cell, after_of}
use Rattle.simulation_example.specs.Example.{case_to, cases, address_of, example, rules}
use Rattle.simulation_example.proofs.ListLemmas.{any_first, any_second}

-- a place other than the one that was set has what it had
set_other : (values : ℕ → ℕ) (place value other : ℕ) → (other == place) ≡ false → set values place value other ≡ values other
set_other values place value other differs = rw differs refl

-- the place that was set has the value
set_same : (values : ℕ → ℕ) (place value : ℕ) → set values place value place ≡ value
set_same values place value = rw (eq-eqb place place refl) refl

-- a value stays the term's where facts with the name go
forget_keeps : (term : Term) (valuation : Valuation) (address number : ℕ) → HasValue term valuation number → HasValue (forget_term address term) valuation number
forget_keeps EntryRax valuation address number has = has
forget_keeps EntryRbx valuation address number has = has
forget_keeps Unknown valuation address number has = tt
forget_keeps (Name other) valuation address number has = go (other == address) refl
  where
    go : (b : Bool) → (other == address) ≡ b → HasValue (if b then Unknown else Name other) valuation number
    go true is = tt
    go false is = has

-- and then the name may take another value
forget_named : (term : Term) (valuation : Valuation) (address value number : ℕ) → HasValue term valuation number → HasValue (forget_term address term) (named valuation address value) number
forget_named EntryRax valuation address value number has = has
forget_named EntryRbx valuation address value number has = has
forget_named Unknown valuation address value number has = tt
forget_named (Name other) valuation address value number has = go (other == address) refl
  where
    go : (b : Bool) → (other == address) ≡ b → HasValue (if b then Unknown else Name other) (named valuation address value) number
    go true is = tt
    go false is = has ∙ sym (set_other valuation.names address value other is)

-- what holds where the registers and the bytes are as before, and facts with a name are gone
nop_sat : (pred : Pred) (state : State) (valuation : Valuation) (address rip : ℕ) → Sat pred state valuation → Sat (forget address pred) (record state { rip = rip }) valuation
nop_sat pred state valuation address rip sat =
    record {
      fixed = record { rsp = sat.fixed.rsp; rbp = sat.fixed.rbp; r12 = sat.fixed.r12; r13 = sat.fixed.r13; r14 = sat.fixed.r14; r15 = sat.fixed.r15; fs = sat.fixed.fs };
      rax = forget_keeps pred.rax valuation address (state.regs register.rax) sat.rax;
      rbx = forget_keeps pred.rbx valuation address (state.regs register.rbx) sat.rbx;
      cell = sat.cell;
    }

-- what holds after a draw
draw_sat :
    (pred : Pred) (state : State) (valuation : Valuation) (address number rip : ℕ) → address ≡ state.rip → Sat pred state valuation →
    Sat (step_of address Draw pred) (record state { rip = rip; regs = set state.regs register.rax number }) (named valuation state.rip number)
draw_sat pred state valuation address number rip at sat =
    record {
      fixed = record { rsp = sat.fixed.rsp; rbp = sat.fixed.rbp; r12 = sat.fixed.r12; r13 = sat.fixed.r13; r14 = sat.fixed.r14; r15 = sat.fixed.r15; fs = sat.fixed.fs };
      rax = sym (subst (λ a. set valuation.names state.rip number a ≡ number) (sym at) (set_same valuation.names state.rip number));
      rbx = subst (λ a. HasValue (forget_term a pred.rbx) (named valuation state.rip number) (state.regs register.rbx)) (sym at) (forget_named pred.rbx valuation state.rip number (state.regs register.rbx) sat.rbx);
      cell = sat.cell;
    }

-- what holds after a swap
swap_sat :
    (pred : Pred) (state : State) (valuation : Valuation) (address rip : ℕ) → Sat pred state valuation →
    Sat (step_of address Swap pred) (record state { rip = rip; regs = swapped state.regs }) valuation
swap_sat pred state valuation address rip sat =
    record {
      fixed = record { rsp = sat.fixed.rsp; rbp = sat.fixed.rbp; r12 = sat.fixed.r12; r13 = sat.fixed.r13; r14 = sat.fixed.r14; r15 = sat.fixed.r15; fs = sat.fixed.fs };
      rax = forget_keeps pred.rbx valuation address (state.regs register.rbx) sat.rbx;
      rbx = forget_keeps pred.rax valuation address (state.regs register.rax) sat.rax;
      cell = sat.cell;
    }

-- what holds after an ordinary instruction, wherever it leads
step_sat :
    (instr : Instr) (pred : Pred) (state new : State) (valuation : Valuation) (address choice : ℕ) → class_of instr ≡ Ordinary →
    address ≡ state.rip → Sat pred state valuation → next state instr choice ≡ Some new →
    (image : Image) → Sat (step_of address instr pred) new (renamed (example image) valuation state.rip (named_value state instr new))
unfolding next
step_sat Nop pred state new valuation address choice ordinary at sat leads image =
    let is : record state { rip = next_of state.rip } ≡ new = cc in
    subst (λ s. Sat (forget address pred) s valuation) is (nop_sat pred state valuation address (next_of state.rip) sat)
step_sat Draw pred state new valuation address choice ordinary at sat leads image =
    let is : record state { rip = next_of state.rip; regs = set state.regs register.rax (choice % 2 ^ 64) } ≡ new = cc in
    subst (λ s. Sat (step_of address Draw pred) s (named valuation state.rip (s.regs register.rax))) is
    (draw_sat pred state valuation address (choice % 2 ^ 64) (next_of state.rip) at sat)
step_sat Swap pred state new valuation address choice ordinary at sat leads image =
    let is : record state { rip = next_of state.rip; regs = swapped state.regs } ≡ new = cc in
    subst (λ s. Sat (step_of address Swap pred) s valuation) is (swap_sat pred state valuation address (next_of state.rip) sat)
step_sat (Branch target) pred state new valuation address choice ordinary at sat leads image =
    let is : record state { rip = if state.regs register.rax == 0 then target else next_of state.rip } ≡ new = cc in
    subst (λ s. Sat (forget address pred) s valuation) is (nop_sat pred state valuation address (if state.regs register.rax == 0 then target else next_of state.rip) sat)
step_sat (Call target) pred state new valuation address choice ordinary at sat leads image = cc
step_sat Syscall pred state new valuation address choice ordinary at sat leads image = cc
step_sat Ret pred state new valuation address choice ordinary at sat leads image = cc

-- the case has the state's address, and holds of it
abbrev Takes : State → Valuation → Case Pred → Type 0
Takes new valuation case = (case.address ≡ new.rip) × Sat case.pred new valuation

-- the address of the case that an ordinary instruction takes, in the list of its cases
step_case :
    (view : View Region) (instr : Instr) (pred : Pred) (state new : State) (valuation : Valuation) (choice : ℕ) (list : List (Case Pred)) →
    class_of instr ≡ Ordinary → view.address ≡ state.rip → Sat (step_of view.address instr pred) new valuation →
    next state instr choice ≡ Some new → cases view instr pred ≡ Some list → (image : Image) → SomeCase (example image) list new valuation
unfolding next cases
step_case view Nop pred state new valuation choice list ordinary at sat leads are image =
    let is : case_to (next_of view.address) view Nop pred ∷ [] ≡ list = cc in
    let to : next_of view.address ≡ new.rip = cc in
    subst (λ l. SomeCase (example image) l new valuation) is (any_first (Takes new valuation) _ [] (to, sat))
step_case view Draw pred state new valuation choice list ordinary at sat leads are image =
    let is : case_to (next_of view.address) view Draw pred ∷ [] ≡ list = cc in
    let to : next_of view.address ≡ new.rip = cc in
    subst (λ l. SomeCase (example image) l new valuation) is (any_first (Takes new valuation) _ [] (to, sat))
step_case view Swap pred state new valuation choice list ordinary at sat leads are image =
    let is : case_to (next_of view.address) view Swap pred ∷ [] ≡ list = cc in
    let to : next_of view.address ≡ new.rip = cc in
    subst (λ l. SomeCase (example image) l new valuation) is (any_first (Takes new valuation) _ [] (to, sat))
step_case view (Branch target) pred state new valuation choice list ordinary at sat leads are image =
    let is : case_to (next_of view.address) view (Branch target) pred ∷ case_to target view (Branch target) pred ∷ [] ≡ list = cc in
    let to : (if state.regs register.rax == 0 then target else next_of state.rip) ≡ new.rip = cc in
    subst (λ l. SomeCase (example image) l new valuation) is (go (state.regs register.rax == 0) to)
  where
    go :
        (b : Bool) → (if b then target else next_of state.rip) ≡ new.rip →
        SomeCase (example image) (case_to (next_of view.address) view (Branch target) pred ∷ case_to target view (Branch target) pred ∷ []) new valuation
    go true to = any_second (Takes new valuation) (case_to (next_of view.address) view (Branch target) pred) (case_to target view (Branch target) pred) [] (to, sat)
    go false to = any_first (Takes new valuation) (case_to (next_of view.address) view (Branch target) pred) (case_to target view (Branch target) pred ∷ []) (ap next_of at ∙ to, sat)
step_case view (Call target) pred state new valuation choice list ordinary at sat leads are image = cc
step_case view Syscall pred state new valuation choice list ordinary at sat leads are image = cc
step_case view Ret pred state new valuation choice list ordinary at sat leads are image = cc

-- an ordinary instruction leads to one of its cases
pub step : (image : Image) → StepLaw (example image) (rules image)
step image point choice new list stands ordinary fork leads pairs are =
    step_case point.view point.instr point.pred point.state new
    (renamed (example image) point.valuation point.state.rip (named_value point.state point.instr new)) choice list ordinary stands.address
    (step_sat point.instr point.pred point.state new point.valuation point.view.address choice ordinary stands.address stands.sat leads image)
    leads are image

lowered_other : (number : ℕ) → number < 2 ^ 64 → number ≡ lowered number → ⊥
lowered_other number small same = omega arith

no_offset : (number offset : ℕ) → number < 2 ^ 64 → offset ≡ 0 → (number + offset) % 2 ^ 64 ≡ number
no_offset number offset small is = omega arith

-- what a call pushes lies beside the word at the stack pointer
push_keeps : (state : State) (instr : Instr) → state.regs register.rsp < 2 ^ 64 → pushed state instr (state.regs register.rsp) ≡ state.memory (state.regs register.rsp)
unfolding pushed
push_keeps state Nop small = refl
push_keeps state Draw small = refl
push_keeps state Swap small = refl
push_keeps state (Branch target) small = refl
push_keeps state (Call target) small =
    set_other state.memory (lowered (state.regs register.rsp)) (next_of state.rip) (state.regs register.rsp) (ne_eqb _ _ (lowered_other (state.regs register.rsp) small))
push_keeps state Syscall small = refl
push_keeps state Ret small = refl

-- the word of the region is the same in both memories
abbrev SameAt : (ℕ → ℕ) → (ℕ → ℕ) → Valuation → Region → Type 0
SameAt old new valuation region = old (address_of region valuation) ≡ new (address_of region valuation)

-- the cell is kept where one of the kept regions is the cell
kept_cell :
    (old new : ℕ → ℕ) (valuation : Valuation) (regions : List Region) → valuation.start.regs register.rsp < 2 ^ 64 → list_any is_cell regions ≡ true →
    All (λ region. old (address_of region valuation) ≡ new (address_of region valuation)) regions →
    old (valuation.start.regs register.rsp) ≡ new (valuation.start.regs register.rsp)
kept_cell old new valuation [] small some kept = cc
kept_cell old new valuation (region ∷ regions) small some kept =
    go (is_cell region) refl some
    (λ later. kept_cell old new valuation regions small later (All-tail (SameAt old new valuation) region regions kept))
  where
    go :
        (b : Bool) → is_cell region ≡ b → (b || list_any is_cell regions) ≡ true →
        (list_any is_cell regions ≡ true → old (valuation.start.regs register.rsp) ≡ new (valuation.start.regs register.rsp)) →
        old (valuation.start.regs register.rsp) ≡ new (valuation.start.regs register.rsp)
    go true is or later =
        let at : address_of region valuation ≡ valuation.start.regs register.rsp = no_offset (valuation.start.regs register.rsp) region.offset small (eqb-true region.offset 0 is) in
        subst (λ a. old a ≡ new a) at (All-head (SameAt old new valuation) region regions kept)
    go false is or later = later or

and_left : (a b : Bool) → (a && b) ≡ true → a ≡ true
and_left true b both = refl
and_left false b both = both

and_right : (a b : Bool) → (a && b) ≡ true → b ≡ true
and_right true b both = both
and_right false b both = cc

-- what holds after a callee that has given back what the convention asks
after_sat :
    (pred : Pred) (state new : State) (instr : Instr) (valuation : Valuation) (address : ℕ) (keeps : List Region) →
    IsState state → address ≡ state.rip → Sat pred state valuation → Fixed new state → new.regs register.rbx ≡ state.regs register.rbx →
    All (λ region. pushed state instr (address_of region valuation) ≡ new.memory (address_of region valuation)) keeps →
    Sat (after_of address keeps pred) new (named valuation state.rip (new.regs register.rax))
after_sat pred state new instr valuation address keeps range at sat same rbx kept =
    let cell : IsTrue (pred.cell && list_any is_cell keeps) → new.memory (valuation.start.regs register.rsp) ≡ valuation.start.memory (valuation.start.regs register.rsp) =
    (λ yes.
    let small : valuation.start.regs register.rsp < 2 ^ 64 = subst (λ n. n < 2 ^ 64) sat.fixed.rsp (range register.rsp) in
    let bytes : pushed state instr (valuation.start.regs register.rsp) ≡ new.memory (valuation.start.regs register.rsp) =
    kept_cell (pushed state instr) new.memory valuation keeps small (and_right pred.cell (list_any is_cell keeps) yes) kept in
    let below : pushed state instr (valuation.start.regs register.rsp) ≡ state.memory (valuation.start.regs register.rsp) =
    subst (λ n. pushed state instr n ≡ state.memory n) sat.fixed.rsp (push_keeps state instr (range register.rsp)) in
    sym bytes ∙ below ∙ sat.cell (and_left pred.cell (list_any is_cell keeps) yes)) in
    record {
      fixed = record {
        rsp = same.rsp ∙ sat.fixed.rsp;
        rbp = same.rbp ∙ sat.fixed.rbp;
        r12 = same.r12 ∙ sat.fixed.r12;
        r13 = same.r13 ∙ sat.fixed.r13;
        r14 = same.r14 ∙ sat.fixed.r14;
        r15 = same.r15 ∙ sat.fixed.r15;
        fs = same.fs ∙ sat.fixed.fs;
      };
      rax = sym (subst (λ a. set valuation.names state.rip (new.regs register.rax) a ≡ new.regs register.rax) (sym at) (set_same valuation.names state.rip (new.regs register.rax)));
      rbx = subst (λ a. HasValue (forget_term a pred.rbx) (named valuation state.rip (new.regs register.rax)) (new.regs register.rbx)) (sym at)
          (subst (HasValue (forget_term state.rip pred.rbx) (named valuation state.rip (new.regs register.rax))) (sym rbx)
          (forget_named pred.rbx valuation state.rip (new.regs register.rax) (state.regs register.rbx) sat.rbx));
      cell = cell;
    }

-- after a call of a function of the graph
pub call : (image : Image) → CallLaw (example image) (rules image)
call image point new target stands calling comes back =
    after_sat point.pred point.state new point.instr point.valuation point.view.address point.view.keeps stands.state stands.address stands.sat
    (record { rsp = back.rsp; rbp = back.saved.rbp; r12 = back.saved.r12; r13 = back.saved.r13; r14 = back.saved.r14; r15 = back.saved.r15; fs = back.saved.fs })
    back.saved.rbx comes.regions

-- after a call of an outside function
pub outside : (image : Image) → OutsideLaw (example image) (rules image)
outside image point new stands calling comes back =
    after_sat point.pred point.state new point.instr point.valuation point.view.address point.view.keeps stands.state stands.address stands.sat
    (record { rsp = back.rsp; rbp = back.saved.rbp; r12 = back.saved.r12; r13 = back.saved.r13; r14 = back.saved.r14; r15 = back.saved.r15; fs = back.saved.fs })
    back.saved.rbx comes.regions

-- after a syscall
pub syscall : (image : Image) → SyscallLaw (example image) (rules image)
syscall image point new stands system comes back =
    after_sat point.pred point.state new point.instr point.valuation point.view.address point.view.keeps stands.state stands.address stands.sat
    (record {
      rsp = back.reg 4 (omega arith) (omega arith) (omega arith) (omega arith);
      rbp = back.reg 5 (omega arith) (omega arith) (omega arith) (omega arith);
      r12 = back.reg 12 (omega arith) (omega arith) (omega arith) (omega arith);
      r13 = back.reg 13 (omega arith) (omega arith) (omega arith) (omega arith);
      r14 = back.reg 14 (omega arith) (omega arith) (omega arith) (omega arith);
      r15 = back.reg 15 (omega arith) (omega arith) (omega arith) (omega arith);
      fs = back.fs;
    })
    (back.reg 3 (omega arith) (omega arith) (omega arith) (omega arith)) comes.regions
