-- Lemmas on valid graphs: what is known of a site, a callee and a place, and where edges lead.
use Rattle.std.proofs.Common.{◌≡◌, ℕ, Bool, true, false, List, refl, ◌∙◌, ap, subst}
use Rattle.std.specs.Prelude.{◌==◌, Option, Some, None, All, Any, if◌then◌else◌, slice_get}
use Rattle.std.specs.Option.{IsSomeAnd, option_and_then}
use Rattle.std.proofs.lemmas.Bool.{eqb-true}
use Rattle.simulation.specs.World.{World, Rules, Case}
use Rattle.simulation.specs.Graph.{site_at, vertex_at, function_at, unless_refused, callee}
use Rattle.simulation.specs.Valid.{EdgeHolds, EdgesHold, SiteHolds, FunctionHolds, Valid, HasForms, IsFormedGraph}
use Rattle.simulation.specs.Track.{Activation, begin}
use Rattle.simulation.specs.Laws.{SomeCase, Laws}
use Rattle.simulation.specs.Safe.{InVertex}
use Rattle.simulation.proofs.ListLemmas.{present, to_present, through, all_at, any_at, zipped, found}

module _ (world : World) (checks : Rules world) (graph : world.Graph) where
  -- the site of an address holds, and stands there
  pub site_holds :
      (function : world.Function) (address : ℕ) (site : world.Site) → FunctionHolds world checks graph function →
      site_at world function address ≡ Some site →
      SiteHolds world checks graph function site × (world.address site ≡ address)
  site_holds function address site holds at =
      let both : SiteHolds world checks graph function site × ((world.address site == address) ≡ true) =
      found (SiteHolds world checks graph function) (λ other. world.address other == address) (world.sites function) site at holds.sites in
      (both.0, eqb-true (world.address site) address both.1)

  -- the rules of a function, whose predicates are formed
  abbrev pub IsRuled : world.Function → Type 0
  IsRuled function = FunctionHolds world checks graph function × HasForms world checks function

  -- the predicates of the site of an address are formed
  pub site_forms :
      (function : world.Function) (address : ℕ) (site : world.Site) → HasForms world checks function →
      site_at world function address ≡ Some site → All (λ vertex. checks.IsFormed (world.pred vertex)) (world.vertices site)
  site_forms function address site forms at =
      (found (λ other. All (λ vertex. checks.IsFormed (world.pred vertex)) (world.vertices other)) (λ other. world.address other == address) (world.sites function) site at forms).0

  -- a vertex that is there and whose predicate holds of the state puts the state in a vertex
  pub in_vertex :
      (activation : Activation world) (state : world.State) (number : ℕ) (Fits : world.Vertex → Type 0) →
      IsRuled activation.function →
      IsSomeAnd (vertex_at world activation.function (world.rip state) number) Fits →
      ((vertex : world.Vertex) → checks.IsFormed (world.pred vertex) → Fits vertex →
      world.Sat (world.pred vertex) state activation.valuation) →
      InVertex world activation state
  in_vertex activation state number Fits holds there gives =
      let at : (site : world.Site) × (site_at world activation.function (world.rip state) ≡ Some site) × IsSomeAnd (slice_get (world.vertices site) number) Fits =
      through Fits (λ site. slice_get (world.vertices site) number) (site_at world activation.function (world.rip state)) there in
      let vertex : (vertex : world.Vertex) × (slice_get (world.vertices at.0) number ≡ Some vertex) × Fits vertex =
      present Fits (slice_get (world.vertices at.0) number) at.2 in
      let forms = site_forms activation.function (world.rip state) at.0 holds.1 at.1 in
      let formed : checks.IsFormed (world.pred vertex.0) = all_at (λ v. checks.IsFormed (world.pred v)) (world.vertices at.0) number vertex.0 vertex.1 forms in
      to_present (λ site. Any (λ v. world.Sat (world.pred v) state activation.valuation) (world.vertices site)) (site_at world activation.function (world.rip state)) at.0 at.1
      (any_at (λ v. world.Sat (world.pred v) state activation.valuation) (world.vertices at.0) number vertex.0 vertex.1 (gives vertex.0 formed vertex.2))

  -- some case that holds leads along its edge to a vertex that holds
  pub lands :
      Laws world checks → (activation : Activation world) (cases : List (Case world.Pred)) (edges : List (ℕ × ℕ)) (state : world.State) →
      IsRuled activation.function → EdgesHold world checks activation.function cases edges →
      SomeCase world cases state activation.valuation → InVertex world activation state
  lands laws activation cases edges state holds along some =
      let both : (case : Case world.Pred) × (edge : ℕ × ℕ) × EdgeHolds world checks activation.function case edge × ((case.address ≡ world.rip state) × world.Sat case.pred state activation.valuation) =
      zipped (EdgeHolds world checks activation.function) (λ case. (case.address ≡ world.rip state) × world.Sat case.pred state activation.valuation) cases edges along some in
      let Fits : world.Vertex → Type 0 = λ vertex. checks.Entails both.0.pred (world.pred vertex) in
      in_vertex activation state both.1.1 Fits holds
      (subst (λ address. IsSomeAnd (vertex_at world activation.function address both.1.1) Fits) (both.2.address ∙ both.3.0) both.2.vertex)
      (λ vertex formed entailed. laws.entails both.0.pred (world.pred vertex) state activation.valuation formed entailed both.3.1)

  -- a function begins in its entry vertex
  pub begins :
      Laws world checks → (function : world.Function) (state : world.State) → IsRuled function →
      world.IsState state → world.entry function ≡ world.rip state →
      InVertex world (begin world function state) state
  begins laws function state holds range at =
      in_vertex (begin world function state) state 0 (λ vertex. checks.IsEntry (world.pred vertex)) holds
      (subst (λ address. IsSomeAnd (vertex_at world function address 0) (λ vertex. checks.IsEntry (world.pred vertex))) at holds.0.entry)
      (λ vertex formed entry. laws.entry (world.pred vertex) state formed entry range)

  not_refused :
      (function other : world.Function) → unless_refused world function ≡ Some other →
      (function ≡ other) × (world.refused other ≡ false)
  not_refused function other is = go (world.refused function) refl is
    where
      go :
          (b : Bool) → world.refused function ≡ b → (if b then None else Some function) ≡ Some other →
          (function ≡ other) × (world.refused other ≡ false)
      go true t f = cc
      go false t f = let same : function ≡ other = cc in (same, subst (λ x. world.refused x ≡ false) same t)

  -- the rules hold of a function that a call begins, and its entry is the call's target
  pub callee_holds :
      (entry : ℕ) (function : world.Function) → IsFormedGraph world checks graph → Valid world checks graph → callee world graph entry ≡ Some function →
      IsRuled function × (world.entry function ≡ entry)
  callee_holds entry function forms valid is = go (function_at world graph entry) refl is
    where
      go :
          (o : Option world.Function) → function_at world graph entry ≡ o →
          option_and_then (unless_refused world) o ≡ Some function → IsRuled function × (world.entry function ≡ entry)
      go None at f = cc
      go (Some other) at f =
          let same : (other ≡ function) × (world.refused function ≡ false) = not_refused other function f in
          let at_function : function_at world graph entry ≡ Some function = at ∙ ap Some same.0 in
          let both : (world.refused function ≡ false → FunctionHolds world checks graph function) × ((world.entry function == entry) ≡ true) =
          found (λ x. world.refused x ≡ false → FunctionHolds world checks graph x) (λ x. world.entry x == entry) (world.functions graph) function at_function valid in
          let formed = (found (HasForms world checks) (λ x. world.entry x == entry) (world.functions graph) function at_function forms).0 in
          ((both.0 same.1, formed), eqb-true (world.entry function) entry both.1)
