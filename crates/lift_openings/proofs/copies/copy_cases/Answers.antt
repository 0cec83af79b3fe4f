use Rattle.lift_rounds.specs.Known.{case_reading}
use Rattle.lift_rounds.specs.declared.data.Case.{Case}
use Rattle.lift_openings.proofs.CopyLemmas.{all_more, copied_more}
use Rattle.lift_openings.proofs.copies.copy_cases.Goals as goal

pub loop-case-preserved : goal.loop-case-preserved
loop-case-preserved g c =
    let t = g.S.Steps in
    let read = case_reading (t.read c.args.steps.now) in
    let copy : Case g.row.S-Pred.Denot = record { address = c.case-item.result.address; pred = c.in_ok-pred.pred } in
    let more = c.in_ok-push.ensures.items in
    record {
      value = copied_more read read c.args.cases.now c.loop-case.case-index c.case-item.result c.loop-case.copies.items c.push.new.self.items copy
          c.loop-case-test.true c.case-item.is c.loop-case.invariant.value (let e = c.in_ok-pred.ensures.value in cc) more;
      inside = all_more (λ x. t.has c.args.steps.now x.pred) c.loop-case.copies.items c.push.new.self.items copy c.loop-case.invariant.inside c.in_ok-pred.ensures.inside more;
    }
