-- Sorted, and each once, the words that lead to segments are the roots.
use Rattle.std.proofs.Common.{◌≡◌, ◌∙◌, ◌++◌, List, ℕ, ap, sym, subst, eqb}
use Rattle.std.specs.List.{flat_map}
use Rattle.std.proofs.lemmas.List.Filters.{dedup_is}
use Rattle.root_scan.specs.Roots.{pointers_to, AreRoots}
use Rattle.root_scan.proofs.RootLemmas.{roots_are}
use Rattle.root_scan.proofs.roots.scan_roots.Goals as goal

pub returns : goal.returns
returns c =
    let found = c.push_pointers.new.roots.items in
    let sorted = c.sort_unstable.new.self.items in
    let image = c.args.image.now in
    let segments = c.segments.result.now in
    let are : found ≡ flat_map (pointers_to image.segs) image.segs =
    c.in_ok-push_pointers.ensures
    ∙ ap (λ xs. xs ++ flat_map (pointers_to segments) segments) c.new-roots.ensures.items
    ∙ ap (λ segs. flat_map (pointers_to segs) segs) c.segments.ensures.value in
    let P : List ℕ → Type 0 = λ xs. AreRoots image xs in
    let kept = dedup_is eqb sorted c.dedup.new.self.items c.dedup.ensures.filtered in
    subst P (sym kept) (roots_are image found sorted are c.sort_unstable.ensures.permutation c.sort_unstable.ensures.sorted)
