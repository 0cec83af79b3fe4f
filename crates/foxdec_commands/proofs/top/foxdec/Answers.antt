use Rattle.foxdec_commands.proofs.GuaranteeLemmas.{two, unreadable, cut, answers, silent_written, decides, completes}
use Rattle.foxdec_commands.proofs.CheckLemmas.{only_refused, all_refused, only_shown, all_shown, only_reported, all_reported, only_safe, only_valid, all_valid, only_broken, all_broken}
use Rattle.foxdec_commands.proofs.FaultLemmas.{only_faulted, all_faulted}
use Rattle.foxdec_commands.proofs.LiftLemmas.{only_lifted, all_lifted}
use Rattle.foxdec_commands.proofs.top.foxdec.Goals as goal

pub returns-clause-words : goal.returns-clause-words
returns-clause-words g c = two _ _ _ _ _ c.run.ensures.ends

pub returns-clause-unreadable : goal.returns-clause-unreadable
returns-clause-unreadable g c asked request is = unreadable _ _ _ _ asked is (rw request at c.run.ensures.ends)

pub returns-clause-refused : goal.returns-clause-refused
returns-clause-refused g c asked request is = only_refused _ _ _ asked _ (rw request at c.run.ensures.ends) is

pub returns-clause-all_refused : goal.returns-clause-all_refused
returns-clause-all_refused g c asked bytes refusal request known applies = all_refused _ _ _ asked _ (rw request at c.run.ensures.ends) bytes refusal known applies

pub returns-clause-faulted : goal.returns-clause-faulted
returns-clause-faulted g c asked request is = only_faulted _ _ _ asked _ (rw request at c.run.ensures.ends) is

pub returns-clause-all_faulted : goal.returns-clause-all_faulted
returns-clause-all_faulted g c asked file graph bytes text fault request takes file_is graph_is accepted applies =
    all_faulted _ _ _ asked _ (rw request at c.run.ensures.ends) file graph takes bytes text fault file_is graph_is accepted applies

pub returns-clause-cut_off : goal.returns-clause-cut_off
returns-clause-cut_off g c asked request is = cut _ _ _ _ asked is (rw request at c.run.ensures.ends)

pub returns-clause-answered : goal.returns-clause-answered
returns-clause-answered g c asked request is = answers _ _ _ _ asked is (rw request at c.run.ensures.ends)

pub returns-clause-silent : goal.returns-clause-silent
returns-clause-silent g c silent = silent_written _ _ _ _ _ silent c.run.ensures.ends

pub returns-clause-decided : goal.returns-clause-decided
returns-clause-decided g c asked due request known = decides _ _ _ _ asked due known (rw request at c.run.ensures.ends)

pub returns-clause-complete : goal.returns-clause-complete
returns-clause-complete g c asked request readable calm = completes _ _ _ _ asked readable calm (rw request at c.run.ensures.ends)

pub returns-clause-valid : goal.returns-clause-valid
returns-clause-valid g c file graph request is = only_valid _ _ _ file graph _ (rw request at c.run.ensures.ends) c.verdict_laws.ensures.valid is

pub returns-clause-all_valid : goal.returns-clause-all_valid
returns-clause-all_valid g c file graph bytes text request file_is graph_is = all_valid _ _ _ file graph _ (rw request at c.run.ensures.ends) c.verdict_laws.ensures.valid bytes text file_is graph_is

pub returns-clause-invalid : goal.returns-clause-invalid
returns-clause-invalid g c file graph request is = only_broken _ _ _ file graph _ (rw request at c.run.ensures.ends) is

pub returns-clause-all_invalid : goal.returns-clause-all_invalid
returns-clause-all_invalid g c file graph bytes text broken request file_is graph_is = all_broken _ _ _ file graph _ (rw request at c.run.ensures.ends) bytes text file_is graph_is broken

pub returns-clause-reported : goal.returns-clause-reported
returns-clause-reported g c file graph request is = only_reported _ _ _ file graph _ (rw request at c.run.ensures.ends) is

pub returns-clause-all_reported : goal.returns-clause-all_reported
returns-clause-all_reported g c file graph bytes text lines request file_is graph_is = all_reported _ _ _ file graph _ (rw request at c.run.ensures.ends) bytes text lines file_is graph_is

pub returns-clause-shown : goal.returns-clause-shown
returns-clause-shown g c file address count request is = only_shown _ _ _ file address count _ (rw request at c.run.ensures.ends) is

pub returns-clause-all_shown : goal.returns-clause-all_shown
returns-clause-all_shown g c file bytes lines address count image request is form are = all_shown _ _ _ file address count _ (rw request at c.run.ensures.ends) bytes lines image is form are

pub returns-clause-safe : goal.returns-clause-safe
returns-clause-safe g c file graph bytes text image h request is file_is graph_is executable spelled =
    only_safe _ _ _ file graph _ (rw request at c.run.ensures.ends) c.verdict_laws.ensures.valid c.runs_are_safe.ensures c.graph_text_laws.ensures.one_text is bytes text image h file_is graph_is executable spelled

pub returns-clause-lifted : goal.returns-clause-lifted
returns-clause-lifted g c file roots externs request is = only_lifted _ _ _ file roots externs _ c.runs_are_safe.ensures (rw request at c.run.ensures.ends) is

pub returns-clause-all_lifted : goal.returns-clause-all_lifted
returns-clause-all_lifted g c file roots externs bytes image request is form = all_lifted _ _ _ file roots externs _ c.runs_are_safe.ensures (rw request at c.run.ensures.ends) bytes image is form
