-- What the theorem takes as given: types, functions and relations of a machine, with no law.
use Rattle.std.specs.Prelude.{ℕ, Bool, Option, List}

-- the classes of instructions that the rules of a graph tell apart
pub data Class : Type 0 where
  Ordinary : Class
  Calling : Class
  System : Class
  Returning : Class
  Stopping : Class

-- the kinds of sites
pub data Kind : Type 0 where
  -- an ordinary instruction
  Step : Kind
  -- a call of the function with this entry
  Call : (target : ℕ) → Kind
  -- a call of a function outside the graph, or a syscall
  Outside : Kind
  -- a verified return
  Return : Kind
  -- where the claim ends, with the number of a reason
  End : (reason : ℕ) → Kind

-- what the step rules see of a site and of its function
pub record View (Region : Type 0) : Type 0 where
  pub address : ℕ
  -- the bytes below and above the stack pointer at the entry that are assumed to be no code
  pub below : ℕ
  pub above : ℕ
  -- the pairs that are assumed to be separate, the pair that is told apart, and what a callee keeps
  pub seps : List (Region × Region)
  pub fork : Option (Region × Region)
  pub keeps : List Region

-- a case of an instruction: where it leads, and what holds there
pub record Case (Pred : Type 0) : Type 0 where
  pub address : ℕ
  pub pred : Pred

-- a machine with its image, its predicates and its graphs
pub record World : Type 1 where
  -- a state, and its bytes
  pub State : Type 0
  pub Memory : Type 0
  pub Instr : Type 0
  -- a predicate on states, under the values of its symbols
  pub Pred : Type 0
  pub Valuation : Type 0
  -- a range of bytes whose address is a term
  pub Region : Type 0
  pub Graph : Type 0
  pub Function : Type 0
  pub Site : Type 0
  pub Vertex : Type 0
  -- a graph's functions; of a function its entry, its frame and its sites; whether it is refused
  pub functions : Graph → List Function
  pub entry : Function → ℕ
  pub below : Function → ℕ
  pub above : Function → ℕ
  pub refused : Function → Bool
  pub sites : Function → List Site
  -- of a site its address and kind, what it assumes, and its vertices
  pub address : Site → ℕ
  pub kind : Site → Kind
  pub seps : Site → List (Region × Region)
  pub fork : Site → Option (Region × Region)
  pub keeps : Site → List Region
  pub vertices : Site → List Vertex
  -- of a vertex its predicate, and its edges: an address and the number of a vertex there
  pub pred : Vertex → Pred
  pub out : Vertex → List (ℕ × ℕ)
  -- each number of the state is in its range
  pub IsState : State → Type 0
  -- the instruction pointer, a register by its number, the FS base, and the bytes
  pub rip : State → ℕ
  pub reg : State → ℕ → ℕ
  pub fs : State → ℕ
  pub memory : State → Memory
  -- the eight bytes at an address, as a number
  pub word : Memory → ℕ → ℕ
  -- the image's instruction at an address, its class, and the address after it
  pub instr_at : ℕ → Option Instr
  pub class_of : Instr → Class
  pub next_address : ℕ → Instr → ℕ
  -- the state after an instruction, by a choice where the machine leaves a result open
  pub next : State → Instr → ℕ → Option State
  -- the bytes when a callee begins: those of the state, with what a call pushes; a syscall pushes
  -- nothing, so at it they are the state's own
  pub pushed : State → Instr → Memory
  -- the valuation of an activation that begins in the state, with no named values
  pub fresh : State → Valuation
  -- the valuation in which the name of the site at an address has a value
  pub named : Valuation → ℕ → ℕ → Valuation
  pub return_address : Valuation → ℕ
  -- the value that a site names, if any, as one state becomes another
  pub named_value : State → Instr → State → Option ℕ
  -- the predicate holds of the state under the valuation
  pub Sat : Pred → State → Valuation → Type 0
  -- the bytes that no run may change are those of the image
  pub Loaded : Memory → Type 0
  -- no byte from so far below to so far above the state's stack pointer is the image's
  pub Framed : ℕ → ℕ → State → Type 0
  -- two regions have no byte in common; a region has the same bytes in both memories
  pub Separate : Region → Region → Valuation → Type 0
  pub SameBytes : Region → Valuation → Memory → Memory → Type 0

-- what a checker of graphs works with: which predicates follow from others, and what holds after an
-- instruction; no run is told by it
pub record Rules (world : World) : Type 1 where
  -- the entry registers, the return address and the FS base are those of the state
  pub Began : world.Valuation → world.State → Type 0
  -- what each predicate of a graph is known to meet beside Sat
  pub IsFormed : world.Pred → Type 0
  -- the predicate with which each function begins
  pub IsEntry : world.Pred → Type 0
  -- where the first holds, so does the second
  pub Entails : world.Pred → world.Pred → Type 0
  -- the stack pointer, the return address and the saved registers are those of the entry
  pub Returns : world.Pred → Type 0
  -- the cases of an ordinary instruction; none where it leads to addresses that are not known
  pub cases : View world.Region → world.Instr → world.Pred → Option (List (Case world.Pred))
  -- what holds after a call or a syscall has come back
  pub after : View world.Region → world.Instr → world.Pred → world.Pred
  -- the constant to which a call goes
  pub target : View world.Region → world.Instr → world.Pred → Option ℕ
  -- the rules on what a callee keeps, on what a site assumes, and on a pair that is told apart
  pub KeepsHold : View world.Region → world.Instr → world.Pred → Type 0
  pub SiteFact : Kind → View world.Region → Type 0
  pub ForkHolds : View world.Region → world.Instr → world.Pred → Type 0
