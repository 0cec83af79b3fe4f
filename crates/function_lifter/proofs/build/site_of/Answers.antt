use Rattle.std.proofs.Common.{◌≡◌, ◌<◌, List, ℕ, get_or, length, sym, subst, arith}
use Rattle.std.specs.List.{All, Contains}
use Rattle.std.proofs.lemmas.List.Elements.{Contains-get_or}
use Rattle.function_lifter.proofs.build.site_of.Goals as goal

pub vertices_of-requires-clause-site : goal.vertices_of-requires-clause-site
vertices_of-requires-clause-site g c =
    let n = length c.args.lift.now.graph.keys.items in
    let site = c.in_ok-site.ensures.site c.requires.lifted.found.graph.listed in
    subst (λ (vs : List ℕ). All (λ v. v < n) vs) (sym c.as_slice-5.ensures.value)
    (λ k d l. ((site.exact (get_or c.in_ok-site.site.items k d)).0 (Contains-get_or c.in_ok-site.site.items k d l)).0)
