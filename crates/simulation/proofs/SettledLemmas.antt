-- What is known of an activation that has come to the instruction of a site.
use Rattle.std.proofs.Common.{◌≡◌, ◌∙◌, ap, sym, subst}
use Rattle.std.specs.Prelude.{Some, All, Any, [], ◌∷◌}
use Rattle.simulation.specs.World.{World, Rules, Kind}
use Rattle.simulation.specs.Graph.{site_at, view_of}
use Rattle.simulation.specs.Valid.{Place, AfterHolds, AtInstr, KindHolds, SiteHolds, case_after}
use Rattle.simulation.specs.Track.{Activation}
use Rattle.simulation.specs.Moves.{resumed}
use Rattle.simulation.specs.Keeps.{IsFramed}
use Rattle.simulation.specs.Laws.{Point, Stands, HoldsAfter, Laws}
use Rattle.simulation.specs.Safe.{InVertex}
use Rattle.simulation.specs.Invariant.{IsLawful}
use Rattle.simulation.proofs.ListLemmas.{present_at, element, all_both, any_one}
use Rattle.simulation.proofs.GraphLemmas.{site_holds, site_forms, lands}

module _ (world : World) (checks : Rules world) where
  -- an activation in a state at the instruction of a site of a kind
  pub record Spot : Type 0 where
    pub activation : Activation world
    pub state : world.State
    pub site : world.Site
    pub kind : Kind
    pub instr : world.Instr

  -- the spot, as the rules see it
  abbrev pub place : Spot → Place world
  place spot = record { function = spot.activation.function; site = spot.site; instr = spot.instr }

  -- the spot with a vertex, as the laws see it
  abbrev pub point : Spot → world.Vertex → Point world
  point spot vertex =
      record {
        view = view_of world spot.activation.function spot.site;
        instr = spot.instr;
        pred = world.pred vertex;
        state = spot.state;
        entry = spot.activation.entry;
        valuation = spot.activation.valuation;
      }

  -- the predicate of the vertex holds at the spot
  abbrev pub SatAt : Spot → world.Vertex → Type 0
  SatAt spot vertex = world.Sat (world.pred vertex) spot.state spot.activation.valuation

  -- what the induction knows of a spot: the activation is lawful, and some vertex holds
  pub record Settled (graph : world.Graph) (spot : Spot) : Type 0 where
    pub lawful : IsLawful world checks graph spot.activation
    pub found : site_at world spot.activation.function (world.rip spot.state) ≡ Some spot.site
    pub kind : world.kind spot.site ≡ spot.kind
    pub instr : world.instr_at (world.rip spot.state) ≡ Some spot.instr
    pub state : world.IsState spot.state
    pub loaded : world.Loaded (world.memory spot.state)
    pub framed : IsFramed world spot.activation
    pub vertex : Any (SatAt spot) (world.vertices spot.site)

module _ (world : World) (checks : Rules world) (graph : world.Graph) (spot : Spot world checks) (settled : Settled world checks graph spot) where
  -- the rules of the site, which stands at the state's address
  pub site_rules :
      SiteHolds world checks graph spot.activation.function spot.site × (world.address spot.site ≡ world.rip spot.state)
  site_rules =
      site_holds world checks graph spot.activation.function (world.rip spot.state) spot.site settled.lawful.rules settled.found

  -- the rules of the site's kind
  pub kind_rules : KindHolds world checks graph spot.activation.function spot.site spot.kind
  kind_rules = subst (KindHolds world checks graph spot.activation.function spot.site) settled.kind site_rules.0.kind

  -- what the rules say of the image's instruction at the site, they say of the spot's
  pub here :
      (Holds : Place world → Type 0) → AtInstr world spot.activation.function spot.site Holds → Holds (place world checks spot)
  here Holds at =
      present_at (λ instr. Holds (record { function = spot.activation.function; site = spot.site; instr = instr }))
      (world.instr_at (world.address spot.site)) spot.instr (ap world.instr_at site_rules.1 ∙ settled.instr) at

  -- a vertex that holds, with a rule of each vertex, and with what the laws ask
  pub chosen :
      (Holds : world.Vertex → Type 0) → All Holds (world.vertices spot.site) →
      (vertex : world.Vertex) × Holds vertex × Stands world checks spot.kind (point world checks spot vertex)
  chosen Holds each =
      let Both : world.Vertex → Type 0 = λ vertex. Holds vertex × checks.IsFormed (world.pred vertex) in
      let some : (vertex : world.Vertex) × Both vertex × SatAt world checks spot vertex =
      element Both (SatAt world checks spot) (world.vertices spot.site)
      (all_both Holds (λ vertex. checks.IsFormed (world.pred vertex)) (world.vertices spot.site) each
      (site_forms world checks graph spot.activation.function (world.rip spot.state) spot.site settled.lawful.forms settled.found))
      settled.vertex in (
        some.0,
        some.1.0,
        record {
          state = settled.state;
          instr = settled.instr;
          address = site_rules.1;
          loaded = settled.loaded;
          began = settled.lawful.began;
          framed = settled.framed;
          fact = subst (λ kind. checks.SiteFact kind (view_of world spot.activation.function spot.site)) settled.kind site_rules.0.fact;
          formed = some.1.1;
          sat = some.2;
        },
      )

  -- the activation goes on in a vertex after a call or a syscall, if what comes after holds
  pub resumes :
      Laws world checks → (vertex : world.Vertex) (next : world.State) → AfterHolds world checks (place world checks spot) vertex →
      world.rip next ≡ world.next_address (world.rip spot.state) spot.instr → HoldsAfter world checks (point world checks spot vertex) next →
      InVertex world (resumed world spot.activation spot.state next) next
  resumes laws vertex next holds rip sat =
      lands world checks graph laws (resumed world spot.activation spot.state next)
      (case_after world checks (place world checks spot) (world.pred vertex) ∷ []) (world.out vertex) next (settled.lawful.rules, settled.lawful.forms) holds.case
      (any_one _ _ (ap (λ address. world.next_address address spot.instr) site_rules.1 ∙ sym rip, sat))
