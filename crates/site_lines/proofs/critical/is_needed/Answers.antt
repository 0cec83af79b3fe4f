use Rattle.std.proofs.Common.{◌≡◌, ◌∙◌, Some, sym, ap}
use Rattle.std.specs.Option.{option_copied}
use Rattle.sym_terms.specs.Plain.{symbol_alone}
use Rattle.site_lines.specs.Critical.{is_needed, needed_symbols}
use Rattle.site_lines.proofs.NeededLemmas.{any_tested, any_refused}
use Rattle.site_lines.proofs.critical.is_needed.Goals as goal

pub returns-in-Some-as_symbol : goal.returns-in-Some-as_symbol
returns-in-Some-as_symbol c =
    let t = c.in-Some.term.now in
    let own : symbol_alone t ≡ Some c.in-Some-as_symbol.own = sym c.as_symbol.ensures ∙ c.in-Some-as_symbol.is in
    c.is_needed_symbol.ensures ∙ sym (any_tested t c.in-Some-as_symbol.own needed_symbols own) ∙ sym (ap (λ v. is_needed (option_copied v)) c.in-Some.is)

pub returns-in-None : goal.returns-in-None
returns-in-None c =
    let t = c.in-Some.term.now in
    sym (any_refused t needed_symbols (sym c.as_symbol.ensures ∙ c.in-None.is)) ∙ sym (ap (λ v. is_needed (option_copied v)) c.in-Some.is)
