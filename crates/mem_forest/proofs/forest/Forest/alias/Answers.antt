use Rattle.std.proofs.Common.{◌≡◌, Bool, true, sym, ap, subst, ◌∙◌}
use Rattle.std.specs.Prelude.{MatchBool, if◌then◌else◌}
use Rattle.mem_forest.specs.Plain.{PlainForest, cells}
use Rattle.mem_forest.specs.Search.{found}
use Rattle.mem_forest.specs.Shape.{IsForest}
use Rattle.mem_forest.specs.Alias.{renamed, can_alias, alias}
use Rattle.mem_forest.proofs.AliasFormLemmas.{alias_forest, alias_found}
use Rattle.mem_forest.proofs.forest.Forest.alias.Goals as goal

pub invariant_of-self-2 : goal.invariant_of-self-2
invariant_of-self-2 c =
    let t = c.args.region.now.at in
    let a = c.args.region.now.bytes in
    let at = c.args.other.now.at in
    let b = c.args.other.now.bytes in
    let f = cells c.self.inside.nodes.items in
    let can : can_alias t a at b f ≡ true = sym (c.can_alias.ensures ∙ ap (λ ns. can_alias t a at b (cells ns)) c.as_slice.ensures.value) ∙ c.if-not-can_alias.false in
    let M : Bool → Type 0 = λ o. MatchBool o (cells c.rename.new.nodes.items ≡ renamed t at b f) (c.rename.new.nodes.items ≡ c.self.inside.nodes.items) in
    let is_renamed : cells c.rename.new.nodes.items ≡ renamed t at b f = subst M (c.in_ok-rename.ensures.found ∙ alias_found t a at b f can) c.in_ok-rename.ensures.ok in
    let P : PlainForest → Type 0 = λ g. IsForest g in
    subst P (sym (is_renamed ∙ sym (ap (λ o. if o then renamed t at b f else f) can))) (alias_forest t a at b f c.self.invariant)

pub returns-clause-ok : goal.returns-clause-ok
returns-clause-ok c =
    let t = c.args.region.now.at in
    let a = c.args.region.now.bytes in
    let at = c.args.other.now.at in
    let b = c.args.other.now.bytes in
    let f = cells c.self.inside.nodes.items in
    let can : can_alias t a at b f ≡ true = sym (c.can_alias.ensures ∙ ap (λ ns. can_alias t a at b (cells ns)) c.as_slice.ensures.value) ∙ c.if-not-can_alias.false in
    let M : Bool → Type 0 = λ o. MatchBool o (cells c.rename.new.nodes.items ≡ renamed t at b f) (c.rename.new.nodes.items ≡ c.self.inside.nodes.items) in
    let is_renamed : cells c.rename.new.nodes.items ≡ renamed t at b f = subst M (c.in_ok-rename.ensures.found ∙ alias_found t a at b f can) c.in_ok-rename.ensures.ok in
    is_renamed ∙ sym (ap (λ o. if o then renamed t at b f else f) can) ∙ ap (alias t a at b) c.self.view_is
