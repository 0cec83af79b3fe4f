use Rattle.spelling_laws.proofs.FormLemmas.{spelled_fits}
use Rattle.spelling_laws.proofs.laws.spelled_in_form.Goals as goal

pub returns : goal.returns
returns c = spelled_fits
