-- The words that lead to the segments so far.
use Rattle.std.proofs.Common.{◌≡◌, ◌++◌, take}
use Rattle.std.specs.List.{flat_map}
use Rattle.root_scan.specs.Roots.{pointers_to}
use Rattle.root_scan.proofs.roots.push_pointers.Given as goal

abbrev pub invariant-loop-code : goal.invariant-loop-code
invariant-loop-code l =
    l.roots.items ≡ l.initial.roots.items ++ flat_map (pointers_to l.segments) (take l.code-index l.segments)
