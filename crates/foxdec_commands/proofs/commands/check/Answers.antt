use Rattle.std.proofs.Common.{inl, subst}
use Rattle.foxdec_commands.specs.Words.{check}
use Rattle.foxdec_commands.specs.Outcome.{IsExecutable, IsGraphText, IsRefusedFile, IsRefusedGraph, GivesVerdict, IsDue}
use Rattle.foxdec_commands.specs.Outside.{files_of}
use Rattle.foxdec_commands.specs.Guarantee.{IsShown, IsUnreadable}
use Rattle.foxdec_commands.specs.FileResult.{IsTaken, IsRefused, FailedRead}
use Rattle.foxdec_commands.specs.View.{refused_of, ending_of}
use Rattle.foxdec_commands.proofs.ShownLemmas.{IsShown-map, IsShown-or_memory}
use Rattle.foxdec_commands.proofs.DueLemmas.{one_verdict, file_due, graph_due, both_due, check_due, graph_unreadable, verdict_shown}
use Rattle.foxdec_commands.proofs.commands.check.Goals as goal

pub returns-in-Err : goal.returns-in-Err
returns-in-Err g c =
    let file = c.args.file.now in
    let graph = c.args.graph.now in
    let files = files_of g.S.Shelf c.args.shelf.now c.take_executable.new.shelf in
    IsShown-map (IsRefused IsExecutable (IsRefusedFile file) (files.known file)) (IsDue files.known (check file graph)) (FailedRead files file) (IsUnreadable files (check file graph)) ⊥ ⊥
    (λ e refused. check_due files.known file graph e (file_due files.known file graph GivesVerdict e refused)) (λ name failed. (inl failed.0, failed.1)) (λ none. none) (refused_of c.in-Err.refusal) c.in-Err.ensures.err

pub returns-in-Err-take_graph : goal.returns-in-Err-take_graph
returns-in-Err-take_graph g c =
    let file = c.args.file.now in
    let graph = c.args.graph.now in
    let files = files_of g.S.Shelf c.args.shelf.now c.take_graph.new.shelf in
    let later = files_of g.S.Shelf c.take_executable.new.shelf c.take_graph.new.shelf in
    let goes = c.take_executable.ensures.shelf in
    let refusal = refused_of c.in-Err-take_graph.refusal in
    let came : IsShown (IsRefused IsGraphText (IsRefusedGraph graph) (files.known graph)) (FailedRead later graph) ⊥ refusal =
    subst (λ known. IsShown (IsRefused IsGraphText (IsRefusedGraph graph) (known graph)) (FailedRead later graph) ⊥ refusal) goes.same c.in-Err-take_graph.ensures.err in
    IsShown-map (IsRefused IsGraphText (IsRefusedGraph graph) (files.known graph)) (IsDue files.known (check file graph)) (FailedRead later graph) (IsUnreadable files (check file graph)) ⊥ ⊥
    (λ e refused. check_due files.known file graph e (graph_due files.known file graph GivesVerdict c.in-Ok.image c.in-Ok.ensures.found e refused))
    (graph_unreadable files.known file graph GivesVerdict c.in-Ok.image c.in-Ok.ensures.found files.faults later.faults later.later_faults goes.rises)
    (λ none. none) refusal came

pub returns : goal.returns
returns g c =
    let file = c.args.file.now in
    let graph = c.args.graph.now in
    let files = files_of g.S.Shelf c.args.shelf.now c.take_graph.new.shelf in
    let image = c.in-Ok.image in
    let g' = c.in-Ok-take_graph.g in
    let Due = IsDue files.known (check file graph) in
    let Failed = IsUnreadable files (check file graph) in
    let only : IsTaken IsGraphText (IsRefusedGraph graph) (files.known graph) g' =
    subst (λ known. IsTaken IsGraphText (IsRefusedGraph graph) (known graph) g') c.take_executable.ensures.shelf.same c.in-Ok-take_graph.ensures.found in
    IsShown-or_memory Due Failed ⊥ (GivesVerdict image g')
    (λ e is. verdict_shown Due Failed image g' e is (check_due files.known file graph e (both_due files.known file graph GivesVerdict image c.in-Ok.ensures.found (one_verdict c.verdict_laws.ensures.one image) g' only e is)))
    (ending_of c.checked_output.result) c.checked_output.ensures
