-- What is known of a track whose next move has a row of the table.
use Rattle.std.proofs.Common.{◌≡◌, ℕ, refl}
use Rattle.std.specs.Prelude.{Option, Some, None}
use Rattle.simulation.specs.World as kinds
use Rattle.simulation.specs.World.{World, Kind, Step, Call, Return, End}
use Rattle.simulation.specs.Graph.{site_at, callee}
use Rattle.simulation.specs.Track.{Status, Live, Passed, Ended, Track}
use Rattle.simulation.specs.Moves.{Move, Plain, Outside, Row, NoRun, Steps, Strays, Enters, Leaves, Resumes, Passes, after_next, with_callee, row_at_kind, row_at, row_while, row}

module _ (world : World) (graph : world.Graph) (track : Track world) where
  -- the track is live, at a site of a kind and its instruction
  pub record Here (site : world.Site) (kind : Kind) (instr : world.Instr) : Type 0 where
    pub live : track.status ≡ Live
    pub found : site_at world track.inner.function (world.rip track.state) ≡ Some site
    pub kind_is : world.kind site ≡ kind
    pub instr_is : world.instr_at (world.rip track.state) ≡ Some instr

  -- the instruction leads to the state, by some choice
  abbrev pub Leads : world.Instr → world.State → Type 0
  Leads instr next = (choice : ℕ) × (world.next track.state instr choice ≡ Some next)

  -- what a row shows of the track
  abbrev pub RowFacts : Row world → Type 0
  RowFacts NoRun = Unit {0}
  RowFacts (Steps site instr next) = Here site Step instr × Leads instr next
  RowFacts (Strays next) =
      (track.status ≡ Live) × (site_at world track.inner.function (world.rip track.state) ≡ None)
  RowFacts (Enters site instr function next) =
      ((target : ℕ) × Here site (Call target) instr × (callee world graph target ≡ Some function)) × Leads instr next
  RowFacts (Leaves site instr next) = Here site Return instr × Leads instr next
  RowFacts (Resumes site instr next) = Here site kinds.Outside instr
  RowFacts Passes = track.status ≡ Live

  next_facts :
      (to : world.State → Row world) (o : Option world.State) →
      ((next : world.State) → o ≡ Some next → RowFacts (to next)) → RowFacts (after_next world to o)
  next_facts to None facts = tt
  next_facts to (Some next) facts = facts next refl

  callee_facts :
      (to : world.Function → Row world) (o : Option world.Function) →
      ((function : world.Function) → o ≡ Some function → RowFacts (to function)) → RowFacts (with_callee world to o)
  callee_facts to None facts = tt
  callee_facts to (Some function) facts = facts function refl

  kind_facts :
      (site : world.Site) (kind : Kind) (instr : Option world.Instr) (move : Move world) → track.status ≡ Live →
      site_at world track.inner.function (world.rip track.state) ≡ Some site → world.kind site ≡ kind →
      world.instr_at (world.rip track.state) ≡ instr → RowFacts (row_at_kind world graph track site kind instr move)
  kind_facts site (End reason) instr move live found kind is = live
  kind_facts site Step (Some instr) (Plain choice) live found kind is =
      next_facts (Steps site instr) (world.next track.state instr choice)
      (λ next leads. (record { live = live; found = found; kind_is = kind; instr_is = is }, (choice, leads)))
  kind_facts site (Call target) (Some instr) (Plain choice) live found kind is =
      callee_facts (λ function. after_next world (Enters site instr function) (world.next track.state instr choice)) (callee world graph target)
      (λ function called.
      next_facts (Enters site instr function) (world.next track.state instr choice)
      (λ next leads. ((target, record { live = live; found = found; kind_is = kind; instr_is = is }, called), (choice, leads))))
  kind_facts site Return (Some instr) (Plain choice) live found kind is =
      next_facts (Leaves site instr) (world.next track.state instr choice)
      (λ next leads. (record { live = live; found = found; kind_is = kind; instr_is = is }, (choice, leads)))
  kind_facts site kinds.Outside (Some instr) (Outside next) live found kind is =
      record { live = live; found = found; kind_is = kind; instr_is = is }
  kind_facts site kind instr move live found _ is = tt

  at_facts :
      (site : Option world.Site) (instr : Option world.Instr) (move : Move world) → track.status ≡ Live →
      site_at world track.inner.function (world.rip track.state) ≡ site →
      world.instr_at (world.rip track.state) ≡ instr → RowFacts (row_at world graph track site instr move)
  at_facts (Some site) instr move live found is = kind_facts site (world.kind site) instr move live found refl is
  at_facts None (Some instr) (Plain choice) live found is =
      next_facts Strays (world.next track.state instr choice) (λ next leads. (live, found))
  at_facts None instr move live found is = tt

  while_facts : (status : Status) (move : Move world) → track.status ≡ status → RowFacts (row_while world graph track status move)
  while_facts Live move live =
      at_facts (site_at world track.inner.function (world.rip track.state)) (world.instr_at (world.rip track.state)) move live refl refl
  while_facts Passed move live = tt
  while_facts Ended move live = tt

  -- what the row of a move shows of the track
  pub row_facts : (move : Move world) → RowFacts (row world graph track move)
  row_facts move = while_facts track.status move refl
