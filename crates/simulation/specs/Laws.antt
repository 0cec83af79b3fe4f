-- The laws of one instruction on which the theorem rests, each under its own name.
use Rattle.std.specs.Prelude.{◌≡◌, ℕ, ◌+◌, ◌%◌, ◌^◌, Some, List, Any}
use Rattle.simulation.specs.Registers as register
use Rattle.simulation.specs.World.{World, Rules, View, Case, Kind, Step, Call, Outside, Return}
use Rattle.simulation.specs.World.{Ordinary, Calling, System, Returning}
use Rattle.simulation.specs.Moves.{renamed}
use Rattle.simulation.specs.Keeps.{Saved, BackFromCall, BackFromSyscall, Apart, Kept}

module _ (world : World) where
  -- a state at an instruction, as the step rules see it
  pub record Point : Type 0 where
    pub view : View world.Region
    pub instr : world.Instr
    pub pred : world.Pred
    pub state : world.State
    -- the state in which the activation began, and the values of its symbols
    pub entry : world.State
    pub valuation : world.Valuation

  -- the instruction leads from the point to the state, by some choice
  abbrev pub LeadsTo : Point → ℕ → world.State → Type 0
  LeadsTo point choice next = world.next point.state point.instr choice ≡ Some next

  -- the point's valuation after a step to the state: the site's name has its new value
  abbrev pub stepped : Point → world.State → world.Valuation
  stepped point next =
      renamed world point.valuation (world.rip point.state)
      (world.named_value point.state point.instr next)

  -- some case has the state's address and holds of it
  abbrev pub SomeCase : List (Case world.Pred) → world.State → world.Valuation → Type 0
  SomeCase cases state valuation =
      Any (λ case. (case.address ≡ world.rip state) × world.Sat case.pred state valuation) cases

  -- what a call does up to the state in which the callee begins
  pub record Pushes (instr : world.Instr) (state next : world.State) : Type 0 where
    pub rsp : (world.reg next register.rsp + 8) % 2 ^ 64 ≡ world.reg state register.rsp
    pub saved : Saved world state next
    pub top :
        world.word (world.memory next) (world.reg next register.rsp) ≡
        world.next_address (world.rip state) instr
    pub memory : world.memory next ≡ world.pushed state instr

  -- what a verified return gives back, from the activation's entry
  pub record Restores (point : Point) (next : world.State) : Type 0 where
    pub rsp : world.reg next register.rsp ≡ (world.reg point.entry register.rsp + 8) % 2 ^ 64
    pub saved : Saved world point.entry next
    pub rip : world.rip next ≡ world.return_address point.valuation

  -- an instruction of the image leads from a state to a state
  abbrev pub StateLaw : Type 0
  StateLaw =
      (state next : world.State) (instr : world.Instr) (choice : ℕ) →
      world.IsState state → world.instr_at (world.rip state) ≡ Some instr →
      world.next state instr choice ≡ Some next → world.IsState next

  -- a fresh valuation began in its state, a name changes no entry symbol, and what `ra` is
  pub record BeginLaw (Began : world.Valuation → world.State → Type 0) : Type 0 where
    pub fresh :
        (state : world.State) → world.IsState state → Began (world.fresh state) state
    pub named :
        (valuation : world.Valuation) (entry : world.State) (address value : ℕ) →
        Began valuation entry → Began (world.named valuation address value) entry
    pub return_address :
        (valuation : world.Valuation) (entry : world.State) → Began valuation entry →
        world.return_address valuation ≡
        world.word (world.memory entry) (world.reg entry register.rsp)

  -- a call pushes the next address, and keeps the saved registers
  abbrev pub PushLaw : Type 0
  PushLaw =
      (instr : world.Instr) (state next : world.State) (choice : ℕ) →
      world.IsState state → world.instr_at (world.rip state) ≡ Some instr →
      world.class_of instr ≡ Calling → world.next state instr choice ≡ Some next →
      Pushes instr state next

module _ (world : World) (checks : Rules world) where
  -- the predicate holds at the point, at a site of the kind in a valid graph and a run that keeps
  pub record Stands (kind : Kind) (point : Point world) : Type 0 where
    pub state : world.IsState point.state
    pub instr : world.instr_at (world.rip point.state) ≡ Some point.instr
    pub address : point.view.address ≡ world.rip point.state
    pub loaded : world.Loaded (world.memory point.state)
    pub began : checks.Began point.valuation point.entry
    pub framed : world.Framed point.view.below point.view.above point.entry
    pub fact : checks.SiteFact kind point.view
    pub formed : checks.IsFormed point.pred
    pub sat : world.Sat point.pred point.state point.valuation

  -- what is known when a callee has come back: what it kept, but for the registers
  pub record ComesBack (point : Point world) (next : world.State) : Type 0 where
    pub keeps : checks.KeepsHold point.view point.instr point.pred
    pub pairs : Apart world point.view.seps point.valuation
    pub state : world.IsState next
    pub regions :
        Kept world point.view.keeps point.valuation (world.pushed point.state point.instr)
        (world.memory next)

  -- what comes after a call or syscall holds, with the site's name at the returned value
  abbrev pub HoldsAfter : Point world → world.State → Type 0
  HoldsAfter point next =
      world.Sat (checks.after point.view point.instr point.pred) next
      (world.named point.valuation (world.rip point.state) (world.reg next register.rax))

  -- the entry predicate holds of every state, under the valuation that begins there
  abbrev pub EntryLaw : Type 0
  EntryLaw =
      (pred : world.Pred) (state : world.State) →
      checks.IsFormed pred → checks.IsEntry pred → world.IsState state →
      world.Sat pred state (world.fresh state)

  -- what a predicate that holds entails, holds
  abbrev pub EntailsLaw : Type 0
  EntailsLaw =
      (pred weaker : world.Pred) (state : world.State) (valuation : world.Valuation) →
      checks.IsFormed weaker → checks.Entails pred weaker → world.Sat pred state valuation →
      world.Sat weaker state valuation

  -- a step leads to one of its cases
  abbrev pub StepLaw : Type 0
  StepLaw =
      (point : Point world) (choice : ℕ) (next : world.State) (cases : List (Case world.Pred)) →
      Stands Step point → world.class_of point.instr ≡ Ordinary →
      checks.ForkHolds point.view point.instr point.pred → LeadsTo world point choice next →
      Apart world point.view.seps (stepped world point next) →
      checks.cases point.view point.instr point.pred ≡ Some cases →
      SomeCase world cases next (stepped world point next)

  -- a call goes to the constant that its target is
  abbrev pub TargetLaw : Type 0
  TargetLaw =
      (point : Point world) (choice : ℕ) (next : world.State) (target : ℕ) →
      Stands (Call target) point → world.class_of point.instr ≡ Calling →
      checks.target point.view point.instr point.pred ≡ Some target →
      LeadsTo world point choice next →
      world.rip next ≡ target

  -- what comes after a call of a function of the graph holds, once the callee is back
  abbrev pub CallLaw : Type 0
  CallLaw =
      (point : Point world) (next : world.State) (target : ℕ) →
      Stands (Call target) point → world.class_of point.instr ≡ Calling → ComesBack point next →
      BackFromCall world point.state next → HoldsAfter point next

  -- what comes after a call of a function outside the graph holds, once the callee is back
  abbrev pub OutsideLaw : Type 0
  OutsideLaw =
      (point : Point world) (next : world.State) →
      Stands Outside point → world.class_of point.instr ≡ Calling → ComesBack point next →
      BackFromCall world point.state next → HoldsAfter point next

  -- what comes after a syscall holds, once the system is back
  abbrev pub SyscallLaw : Type 0
  SyscallLaw =
      (point : Point world) (next : world.State) →
      Stands Outside point → world.class_of point.instr ≡ System → ComesBack point next →
      BackFromSyscall world point.state next → HoldsAfter point next

  -- a verified return goes to the return address, with what was saved at the entry
  abbrev pub ReturnLaw : Type 0
  ReturnLaw =
      (point : Point world) (choice : ℕ) (next : world.State) →
      Stands Return point → world.class_of point.instr ≡ Returning → checks.Returns point.pred →
      LeadsTo world point choice next → Restores world point next

  -- all laws
  pub record Laws : Type 0 where
    pub state : StateLaw world
    pub begin : BeginLaw world checks.Began
    pub entry : EntryLaw
    pub entails : EntailsLaw
    pub step : StepLaw
    pub target : TargetLaw
    pub push : PushLaw world
    pub call : CallLaw
    pub outside : OutsideLaw
    pub syscall : SyscallLaw
    pub return : ReturnLaw
