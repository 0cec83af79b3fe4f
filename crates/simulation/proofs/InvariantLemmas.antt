-- Each row of the table of moves keeps the invariant.
use Rattle.std.proofs.Common.{◌≡◌, ℕ, ◌+◌, ◌%◌, ◌^◌, List, [], ◌∷◌, ◌⊎◌, inl, inr, sym, ◌∙◌, subst}
use Rattle.std.specs.Prelude.{Option, Some, None, All, Any, IfSome}
use Rattle.std.specs.Option.{IsSomeAnd}
use Rattle.std.proofs.lemmas.List.Elements.{All-head}
use Rattle.simulation.specs.Registers as register
use Rattle.simulation.specs.World as kinds
use Rattle.simulation.specs.World.{World, Rules, Case, Kind, Step, Call, Return, Class, Ordinary, Calling, System, Returning}
use Rattle.simulation.specs.Graph.{site_at, callee, view_of}
use Rattle.simulation.specs.Valid.{EdgesHold, StepHolds, AfterHolds, CallHolds, EachVertex, FunctionHolds, Valid, HasForms, IsFormedGraph}
use Rattle.simulation.specs.Track.{Activation, Waiting, Live, Track, begin}
use Rattle.simulation.specs.Moves.{Row, NoRun, Steps, Strays, Enters, Leaves, Resumes, Passes, renamed, with_name, resumed, left, moved}
use Rattle.simulation.specs.Keeps.{Saved, BackFromCall, BackFrom, Apart, Kept, OutsideKeeps, CallerKeeps, IsFramed, RowKeeps, MomentKeeps}
use Rattle.simulation.specs.Laws.{Stands, ComesBack, HoldsAfter, Pushes, Restores, Laws}
use Rattle.simulation.specs.Safe.{InVertex, WhileLive}
use Rattle.simulation.specs.Invariant.{IsLawful, Waits, Chain, IsAlive, Invariant}
use Rattle.simulation.proofs.ListLemmas.{present, present_at, to_present, if_some_at}
use Rattle.simulation.proofs.GraphLemmas.{lands, begins, callee_holds}
use Rattle.simulation.proofs.SettledLemmas.{Spot, SatAt, Settled, place, point, kind_rules, here, chosen, resumes}
use Rattle.simulation.proofs.RowLemmas.{Here, RowFacts}

-- what is saved twice is saved
saved_twice : (world : World) (first second third : world.State) → Saved world first second → Saved world second third → Saved world first third
saved_twice world first second third one two =
    record {
      rbx = two.rbx ∙ one.rbx;
      rbp = two.rbp ∙ one.rbp;
      r12 = two.r12 ∙ one.r12;
      r13 = two.r13 ∙ one.r13;
      r14 = two.r14 ∙ one.r14;
      r15 = two.r15 ∙ one.r15;
      fs = two.fs ∙ one.fs;
    }

module _ (world : World) (checks : Rules world) (laws : Laws world checks) (graph : world.Graph) (forms : IsFormedGraph world checks graph) (valid : Valid world checks graph) where
  -- a name leaves an activation lawful
  pub named_lawful :
      (activation : Activation world) (address : ℕ) (value : Option ℕ) → IsLawful world checks graph activation →
      IsLawful world checks graph (with_name world activation address value)
  named_lawful activation address None lawful = lawful
  named_lawful activation address (Some value) lawful =
      record { rules = lawful.rules; forms = lawful.forms; began = laws.begin.named activation.valuation activation.entry address value lawful.began }

  -- the state at a verified return keeps the invariant, whoever the callers are
  left_holds :
      (inner : Activation world) (next : world.State) (callers : List (Waiting world)) → IsLawful world checks graph inner →
      world.IsState next → world.reg next register.rsp ≡ (world.reg inner.entry register.rsp + 8) % 2 ^ 64 →
      Saved world inner.entry next → world.rip next ≡ world.return_address inner.valuation →
      Chain world checks graph inner.entry callers → All (λ waiting. IsFramed world waiting.caller) callers →
      CallerKeeps world inner.entry next callers → Invariant world checks graph (left world inner next callers)
  left_holds inner next [] lawful state rsp saved rip chain framed keeps =
      record { safe = record { vertex = tt; returned = record { rsp = rsp; saved = saved; goes = rip } }; alive = tt }
  left_holds inner next (waiting ∷ callers) lawful state rsp saved rip chain framed keeps =
      let waits : Waits world checks graph waiting inner.entry = chain.0 in
      let spot : Spot world checks = record { activation = waiting.caller; state = waiting.call; site = waits.site; kind = Call waits.target; instr = waits.instr } in
      let settled : Settled world checks graph spot =
      record {
        lawful = waits.lawful;
        found = waits.found;
        kind = waits.kind;
        instr = waits.at;
        state = waits.state;
        loaded = waits.loaded;
        framed = All-head (λ (w : Waiting world). IsFramed world w.caller) waiting callers framed;
        vertex = waits.vertex;
      } in
      let rules : EachVertex world (place world checks spot) (λ class. class ≡ Calling) (CallHolds world checks (place world checks spot) waits.target) =
      here world checks graph spot settled (λ p. EachVertex world p (λ class. class ≡ Calling) (CallHolds world checks p waits.target)) (kind_rules world checks graph spot settled).1 in
      let vertex : (v : world.Vertex) × CallHolds world checks (place world checks spot) waits.target v × Stands world checks (Call waits.target) (point world checks spot v) =
      chosen world checks graph spot settled (CallHolds world checks (place world checks spot) waits.target) rules.each in
      let push : Pushes world waits.instr waiting.call inner.entry =
      laws.push waits.instr waiting.call inner.entry waits.choice waits.state waits.at rules.class waits.next in
      let back : BackFromCall world waiting.call next =
      record { rsp = rsp ∙ push.rsp; saved = saved_twice world waiting.call inner.entry next push.saved saved } in
      let to_next : world.rip next ≡ world.next_address (world.rip waiting.call) waits.instr =
      rip ∙ laws.begin.return_address inner.valuation inner.entry lawful.began ∙ push.top in
      let bytes : Kept world (world.keeps waits.site) waiting.caller.valuation (world.memory inner.entry) (world.memory next) =
      if_some_at (λ site. Kept world (world.keeps site) waiting.caller.valuation (world.memory inner.entry) (world.memory next))
      (site_at world waiting.caller.function (world.rip waiting.call)) waits.site waits.found keeps in
      let after : HoldsAfter world checks (point world checks spot vertex.0) next =
      laws.call (point world checks spot vertex.0) next waits.target vertex.2 rules.class
      (record {
        keeps = vertex.1.after.keeps;
        pairs = waits.pairs;
        state = state;
        regions = subst (λ old. Kept world (world.keeps waits.site) waiting.caller.valuation old (world.memory next)) push.memory bytes;
      })
      back in
      record {
        safe = record {
          vertex = resumes world checks graph spot settled laws vertex.0 next vertex.1.after to_next after;
          returned = record {
            rsp = rsp;
            saved = saved;
            goes = record {
              rip = to_present (λ instr. world.rip next ≡ world.next_address (world.rip waiting.call) instr) (world.instr_at (world.rip waiting.call)) waits.instr waits.at to_next;
              back = back;
            };
          };
        };
        alive = record {
          state = state;
          lawful = named_lawful waiting.caller (world.rip waiting.call) (Some (world.reg next register.rax)) waits.lawful;
          chain = chain.1;
        };
      }

  module _ (track : Track world) (holds : Invariant world checks graph track) (moment : MomentKeeps world track) where
    -- a live track of the invariant is alive
    alive : track.status ≡ Live → IsAlive world checks graph track
    alive live = subst (λ status. WhileLive status (IsAlive world checks graph track)) live holds.alive

    -- a live track of the invariant stands in a vertex
    in_vertex : track.status ≡ Live → InVertex world track.inner track.state
    in_vertex live = subst (λ status. WhileLive status (InVertex world track.inner track.state)) live holds.safe.vertex

    -- the innermost activation at a site
    abbrev spot_at : world.Site → Kind → world.Instr → Spot world checks
    spot_at site kind instr =
        record { activation = track.inner; state = track.state; site = site; kind = kind; instr = instr }

    settled :
        (site : world.Site) (kind : Kind) (instr : world.Instr) → Here world graph track site kind instr →
        Settled world checks graph (spot_at site kind instr)
    settled site kind instr now =
        record {
          lawful = (alive now.live).lawful;
          found = now.found;
          kind = now.kind_is;
          instr = now.instr_is;
          state = (alive now.live).state;
          loaded = moment.loaded;
          framed = moment.inner;
          vertex = present_at (λ other. Any (SatAt world checks (spot_at site kind instr)) (world.vertices other)) (site_at world track.inner.function (world.rip track.state)) site now.found (in_vertex now.live);
        }

    -- after a step the innermost activation is in a vertex
    step_lands :
        (site : world.Site) (instr : world.Instr) (next : world.State) (choice : ℕ) → Here world graph track site Step instr →
        world.next track.state instr choice ≡ Some next →
        Apart world (world.seps site) (renamed world track.inner.valuation (world.rip track.state) (world.named_value track.state instr next)) →
        InVertex world (with_name world track.inner (world.rip track.state) (world.named_value track.state instr next)) next
    step_lands site instr next choice now leads pairs =
        let spot : Spot world checks = spot_at site Step instr in
        let at : Settled world checks graph spot = settled site Step instr now in
        let rules : EachVertex world (place world checks spot) (λ class. class ≡ Ordinary) (StepHolds world checks (place world checks spot)) =
        here world checks graph spot at (λ p. EachVertex world p (λ class. class ≡ Ordinary) (StepHolds world checks p)) (kind_rules world checks graph spot at) in
        let vertex : (v : world.Vertex) × StepHolds world checks (place world checks spot) v × Stands world checks Step (point world checks spot v) =
        chosen world checks graph spot at (StepHolds world checks (place world checks spot)) rules.each in
        let cases : (cases : List (Case world.Pred)) × (checks.cases (view_of world track.inner.function site) instr (world.pred vertex.0) ≡ Some cases) × EdgesHold world checks track.inner.function cases (world.out vertex.0) =
        present (λ cases. EdgesHold world checks track.inner.function cases (world.out vertex.0)) (checks.cases (view_of world track.inner.function site) instr (world.pred vertex.0)) vertex.1.cases in
        lands world checks graph laws (with_name world track.inner (world.rip track.state) (world.named_value track.state instr next)) cases.0 (world.out vertex.0) next (at.lawful.rules, at.lawful.forms) cases.2
        (laws.step (point world checks spot vertex.0) choice next cases.0 vertex.2 rules.class vertex.1.fork leads pairs cases.1)

    -- after an outside move the innermost activation is in a vertex
    outside_lands :
        (site : world.Site) (instr : world.Instr) (next : world.State) → Here world graph track site kinds.Outside instr →
        OutsideKeeps world track site instr next → InVertex world (resumed world track.inner track.state next) next
    outside_lands site instr next now keeps =
        let spot : Spot world checks = spot_at site kinds.Outside instr in
        let at : Settled world checks graph spot = settled site kinds.Outside instr now in
        let rules : EachVertex world (place world checks spot) (λ class. (class ≡ Calling) ⊎ (class ≡ System)) (AfterHolds world checks (place world checks spot)) =
        here world checks graph spot at (λ p. EachVertex world p (λ class. (class ≡ Calling) ⊎ (class ≡ System)) (AfterHolds world checks p)) (kind_rules world checks graph spot at) in
        let vertex : (v : world.Vertex) × AfterHolds world checks (place world checks spot) v × Stands world checks kinds.Outside (point world checks spot v) =
        chosen world checks graph spot at (AfterHolds world checks (place world checks spot)) rules.each in
        let back : ComesBack world checks (point world checks spot vertex.0) next =
        record { keeps = vertex.1.keeps; pairs = keeps.pairs; state = keeps.state; regions = keeps.regions } in
        let after : (world.class_of instr ≡ Calling) ⊎ (world.class_of instr ≡ System) → HoldsAfter world checks (point world checks spot vertex.0) next =
        elim [
          | inl calling ↦
              laws.outside (point world checks spot vertex.0) next vertex.2 calling back
              (subst (λ class. BackFrom world class track.state next) calling keeps.back)
          | inr system ↦
              laws.syscall (point world checks spot vertex.0) next vertex.2 system back
              (subst (λ class. BackFrom world class track.state next) system keeps.back)
        ] in
        resumes world checks graph spot at laws vertex.0 next vertex.1 keeps.rip (after rules.class)

    -- a return keeps the invariant
    return_holds :
        (site : world.Site) (instr : world.Instr) (next : world.State) (choice : ℕ) → Here world graph track site Return instr →
        world.next track.state instr choice ≡ Some next → CallerKeeps world track.inner.entry next track.callers →
        Invariant world checks graph (left world track.inner next track.callers)
    return_holds site instr next choice now leads keeps =
        let spot : Spot world checks = spot_at site Return instr in
        let at : Settled world checks graph spot = settled site Return instr now in
        let Returns : world.Vertex → Type 0 = λ vertex. checks.Returns (world.pred vertex) in
        let rules : EachVertex world (place world checks spot) (λ class. class ≡ Returning) Returns =
        here world checks graph spot at (λ p. EachVertex world p (λ class. class ≡ Returning) Returns) (kind_rules world checks graph spot at) in
        let vertex : (v : world.Vertex) × Returns v × Stands world checks Return (point world checks spot v) = chosen world checks graph spot at Returns rules.each in
        let restores : Restores world (point world checks spot vertex.0) next =
        laws.return (point world checks spot vertex.0) choice next vertex.2 rules.class vertex.1 leads in
        left_holds track.inner next track.callers at.lawful (laws.state track.state next instr choice at.state now.instr_is leads)
        restores.rsp restores.saved restores.rip (alive now.live).chain moment.callers keeps

    -- what a call begins: the callee in its entry vertex, and a caller that waits for it
    pub record Enter (site : world.Site) (function : world.Function) (next : world.State) : Type 0 where
      pub vertex : InVertex world (begin world function next) next
      pub lawful : IsLawful world checks graph (begin world function next)
      pub state : world.IsState next
      pub waits : Waits world checks graph (record { caller = track.inner; call = track.state }) next

    call_enters :
        (site : world.Site) (instr : world.Instr) (function : world.Function) (next : world.State) (target choice : ℕ) →
        Here world graph track site (Call target) instr → callee world graph target ≡ Some function →
        world.next track.state instr choice ≡ Some next → Apart world (world.seps site) track.inner.valuation →
        Enter site function next
    call_enters site instr function next target choice now called leads pairs =
        let spot : Spot world checks = spot_at site (Call target) instr in
        let at : Settled world checks graph spot = settled site (Call target) instr now in
        let rules : EachVertex world (place world checks spot) (λ class. class ≡ Calling) (CallHolds world checks (place world checks spot) target) =
        here world checks graph spot at (λ p. EachVertex world p (λ class. class ≡ Calling) (CallHolds world checks p target)) (kind_rules world checks graph spot at).1 in
        let vertex : (v : world.Vertex) × CallHolds world checks (place world checks spot) target v × Stands world checks (Call target) (point world checks spot v) =
        chosen world checks graph spot at (CallHolds world checks (place world checks spot) target) rules.each in
        let goes : world.rip next ≡ target =
        laws.target (point world checks spot vertex.0) choice next target vertex.2 rules.class vertex.1.goes leads in
        let callee_rules : (FunctionHolds world checks graph function × HasForms world checks function) × (world.entry function ≡ target) = callee_holds world checks graph target function forms valid called in
        let state : world.IsState next = laws.state track.state next instr choice at.state now.instr_is leads in
        record {
          vertex = begins world checks graph laws function next callee_rules.0 state (callee_rules.1 ∙ sym goes);
          lawful = record { rules = callee_rules.0.0; forms = callee_rules.0.1; began = laws.begin.fresh next state };
          state = state;
          waits = record {
            lawful = at.lawful;
            site = site;
            target = target;
            instr = instr;
            choice = choice;
            found = now.found;
            kind = now.kind_is;
            at = now.instr_is;
            next = leads;
            state = at.state;
            loaded = moment.loaded;
            pairs = pairs;
            vertex = at.vertex;
          };
        }

    -- each row keeps the invariant
    pub row_holds :
        (row : Row world) → RowFacts world graph track row → RowKeeps world track row →
        IfSome (moved world track row) (Invariant world checks graph)
    row_holds NoRun facts keeps = tt
    row_holds (Steps site instr next) facts keeps =
        record {
          safe = record { vertex = step_lands site instr next facts.1.0 facts.0 facts.1.1 keeps; returned = tt };
          alive = record {
            state = laws.state track.state next instr facts.1.0 (alive facts.0.live).state facts.0.instr_is facts.1.1;
            lawful = named_lawful track.inner (world.rip track.state) (world.named_value track.state instr next) (alive facts.0.live).lawful;
            chain = (alive facts.0.live).chain;
          };
        }
    row_holds (Strays next) facts keeps =
        absurd
        (subst
        (λ o. IsSomeAnd o (λ site. Any (λ v. world.Sat (world.pred v) track.state track.inner.valuation) (world.vertices site)))
        facts.1 (in_vertex facts.0))
    row_holds (Enters site instr function next) facts keeps =
        let entered : Enter site function next =
        call_enters site instr function next facts.0.0 facts.1.0 facts.0.1 facts.0.2 facts.1.1 keeps in
        record {
          safe = record { vertex = entered.vertex; returned = tt };
          alive = record {
            state = entered.state;
            lawful = entered.lawful;
            chain = (entered.waits, (alive facts.0.1.live).chain);
          };
        }
    row_holds (Leaves site instr next) facts keeps =
        return_holds site instr next facts.1.0 facts.0 facts.1.1 keeps
    row_holds (Resumes site instr next) facts keeps =
        record {
          safe = record { vertex = outside_lands site instr next facts keeps; returned = tt };
          alive = record {
            state = keeps.state;
            lawful = named_lawful track.inner (world.rip track.state) (Some (world.reg next register.rax)) (alive facts.live).lawful;
            chain = (alive facts.live).chain;
          };
        }
    row_holds Passes facts keeps = record { safe = record { vertex = tt; returned = tt }; alive = tt }
