-- The laws of one instruction, for every instruction.
use Rattle.std.proofs.Common.{◌≡◌, ℕ, ◌^◌, ◌<◌, Option, Some, refl, sym, ap, subst, ◌∙◌}
use Rattle.simulation.specs.World.{Calling, Kind, Call, Outside, View}
use Rattle.simulation.specs.Moves as moves
use Rattle.simulation.specs.Keeps as keeps
use Rattle.simulation.specs.Laws as theory
use Rattle.sym_terms.specs.Value.{Valuation}
use Rattle.memory_regions.specs.declared.region.Region.{Region}
use Rattle.elf_image.specs.declared.image.Image.{Image}
use Rattle.elf_image.specs.Image.{IsImage}
use Rattle.x86_instr.specs.declared.instr.Op.TheVariants as op
use Rattle.x86_instr.specs.declared.instr.Instr.{Instr}
use Rattle.x86_instr.specs.Classes.{class_of}
use Rattle.x86_instr.specs.Registers.{rax, rsp}
use Rattle.x86_instr.specs.Fits.{InForm}
use Rattle.x86_machine.specs.State.{State, reg}
use Rattle.x86_machine.specs.Named.{named_value}
use Rattle.x86_machine.specs.StepLaws.{RangeLaws}
use Rattle.forest_meaning.specs.Assumed.{Framed, Keeps}
use Rattle.forest_laws.specs.Laws.{SameNumbers}
use Rattle.predicate_meaning.specs.Begin.{fresh, with_name, renamed, Began}
use Rattle.predicate_meaning.specs.Sat.{Sat}
use Rattle.step_rules.specs.Cases as step_cases
use Rattle.step_rules.specs.Calls.{after}
use Rattle.instruction_laws.specs.StepLaw.{StepLaw}
use Rattle.call_laws.specs.Calls.{Calls, CallLaw, SyscallLaw}
use Rattle.call_laws.specs.Target.{TargetLaw}
use Rattle.instr_at.specs.At.{instr_at, InstrAtLaw}
use Rattle.graph_runs.specs.Classes.{class_by, pushed_by}
use Rattle.graph_runs.specs.Laws.{EntryLaw, EntailsLaw, ReturnLaw}
use Rattle.graph_runs.specs.World.{x86}
use Rattle.graph_runs.proofs.MachineLemmas.{FormLaw, in_form, is_call}
use Rattle.graph_rules.specs.Rules.{view_of, rules}
use Rattle.safe_runs.proofs.WordLemmas.{is_ordinary, is_syscall, same_entry, renaming, pairs_hold, same_numbers, mapped, back_call, back_syscall}

-- what is known of the machine, of instructions and of an executable
pub record Given (image : Image) : Type 0 where
  pub formed : IsImage image
  pub at : InstrAtLaw
  pub forms : FormLaw
  pub ranges : RangeLaws

module _ {image : Image} (given : Given image) where
  -- frame and pairs, under a valuation whose entry symbols are those of the activation
  keeps_at : (u w : Valuation) (entry : State) (view : View Region) → Began u entry → ((r : ℕ) → w.entry r ≡ u.entry r)
      → Framed image view.below view.above (reg entry rsp) → keeps.Apart (x86 image) view.seps w → Keeps w (view_of image view).known
  keeps_at u w entry view b same framed pairs =
      let top : reg entry rsp ≡ w.entry rsp = sym (same rsp ∙ b.entry rsp) in
      record {
        image = given.formed;
        stack = subst (λ x. x < 2 ^ 64) top (given.ranges.reg_below entry rsp b.state);
        frame = subst (Framed image view.below view.above) top framed;
        pairs = pairs_hold image w view.seps pairs;
      }

  module _ (kind : Kind) (point : theory.Point (x86 image)) (h : theory.Stands (x86 image) (rules image) kind point) where
    abbrev i : Instr
    i = point.instr

    form : InForm i
    form = in_form given.at given.forms image point.state.rip i h.state.rip h.instr

    here : i.addr ≡ point.state.rip
    here = ((given.at image point.state.rip i).0 h.instr).address

    -- ---- a step

    module _ (t : State) where
      abbrev value : Option ℕ
      value = named_value point.state i t

      abbrev later : Valuation
      later = renamed point.valuation i.addr value

      stepped : theory.stepped (x86 image) point t ≡ later
      stepped = renaming image point.valuation point.state.rip value ∙ ap (λ a. renamed point.valuation a value) (sym here)

      kept_later : keeps.Apart (x86 image) point.view.seps (theory.stepped (x86 image) point t) → Keeps later (view_of image point.view).known
      kept_later apart =
          keeps_at point.valuation later point.entry point.view h.began (same_entry point.valuation i.addr value) h.framed
          (subst (λ x. keeps.Apart (x86 image) point.view.seps x) stepped apart)

    -- ---- a call

    kept_now : keeps.Apart (x86 image) point.view.seps point.valuation → Keeps point.valuation (view_of image point.view).known
    kept_now apart = keeps_at point.valuation point.valuation point.entry point.view h.began (λ r. refl) h.framed apart

    calls : (t : State) → theory.ComesBack (x86 image) (rules image) point t → Calls (view_of image point.view) i point.pred point.state t point.valuation
    calls t c = record { before = h.state; back = c.state; form = form; kept = kept_now c.pairs; sat = h.sat }

    numbers : (t : State) → theory.ComesBack (x86 image) (rules image) point t
        → SameNumbers point.valuation (pushed_by (class_by (class_of i.op)) point.state i) t.memory point.view.keeps
    numbers t c = same_numbers image point.valuation _ t.memory point.view.keeps c.regions

    -- the site's address is the instruction's
    holds_after : (t : State) → Sat (after (view_of image point.view) i point.pred) t (with_name point.valuation i.addr (reg t rax))
        → theory.HoldsAfter (x86 image) (rules image) point t
    holds_after t k = subst (λ a. Sat (after (view_of image point.view) i point.pred) t (with_name point.valuation a (reg t rax))) here k

    after_call : CallLaw → class_by (class_of i.op) ≡ Calling → (t : State) → theory.ComesBack (x86 image) (rules image) point t
        → keeps.BackFromCall (x86 image) point.state t → theory.HoldsAfter (x86 image) (rules image) point t
    after_call law class t c b =
        let same = subst (λ k. SameNumbers point.valuation (pushed_by k point.state i) t.memory point.view.keeps) class (numbers t c) in
        holds_after t (law (view_of image point.view) i point.pred point.state t point.valuation (calls t c) (is_call i.op class) same (back_call image point.state t b))

  step_holds : StepLaw → theory.StepLaw (x86 image) (rules image)
  step_holds law point choice t ds h class forks leads apart e =
      let v = view_of image point.view in
      subst (λ x. theory.SomeCase (x86 image) ds t x) (sym (stepped _ point h t))
      (mapped image (step_cases.cases v point.instr point.pred) ds t (later _ point h t) e (λ cs k.
      law v point.instr point.pred point.state t point.valuation choice cs (is_ordinary (class_of point.instr.op) class) h.state (form _ point h)
      (kept_later _ point h t apart) h.loaded h.sat leads k))

  target_holds : TargetLaw → theory.TargetLaw (x86 image) (rules image)
  target_holds law point choice t target h class e leads =
      law (view_of image point.view) point.instr point.pred point.state t point.valuation choice target (is_call point.instr.op class) h.state
      (form _ point h) given.formed h.loaded h.sat e leads

  after_syscall : SyscallLaw → theory.SyscallLaw (x86 image) (rules image)
  after_syscall law point t h class c b =
      let same = subst (λ k. SameNumbers point.valuation (pushed_by k point.state point.instr) t.memory point.view.keeps) class (numbers _ point h t c) in
      holds_after _ point h t (law (view_of image point.view) point.instr point.pred point.state t point.valuation (calls _ point h t c)
      (is_syscall point.instr.op class) same (back_syscall image point.state t b))

  pub all_laws : theory.StateLaw (x86 image) → theory.BeginLaw (x86 image) Began → theory.PushLaw (x86 image) → EntryLaw → EntailsLaw → ReturnLaw
      → StepLaw → CallLaw → SyscallLaw → TargetLaw → theory.Laws (x86 image) (rules image)
  all_laws state begin push entry entails return step call syscall target = record {
    state = state;
    begin = begin;
    entry = λ p s formed is range. subst (λ q. Sat q s (fresh s)) (sym is) (entry s range);
    entails = λ p q s u formed e h. entails p q s u formed.forest e h;
    step = step_holds step;
    target = target_holds target;
    push = push;
    call = λ point t target h class c b. after_call _ point h call class t c b;
    outside = λ point t h class c b. after_call _ point h call class t c b;
    syscall = after_syscall syscall;
    return = λ point choice t h class returns leads. return image point choice t h.state h.began h.sat returns class leads;
  }
