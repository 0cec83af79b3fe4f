use Rattle.bank_values.specs.ReadBack.{predicate_at}
use Rattle.lift_rounds.specs.Known.{reading}
use Rattle.site_lines.specs.Subject.{subject_of}
use Rattle.lifted_exact.specs.Looked.{IsLookedSite}
use Rattle.lifted_parts.specs.Built.{site_of}
use Rattle.function_lifter.proofs.CallLemmas.{called_more}
use Rattle.function_lifter.proofs.EachLemmas.{each_one_more, mapped_more}
use Rattle.function_lifter.proofs.build.sites_of.Goals as goal

pub loop-address-preserved : goal.loop-address-preserved
loop-address-preserved g c =
    let lift = c.args.lift.now in
    let known = reading (predicate_at (g.B.Bank.terms c.args.bank.now)) lift.made.items in
    let before = c.loop-address.invariant in
    let site = c.in_ok-site_of.field-0 in
    let one = c.in_ok-site_of.ensures in
    let more = c.in_ok-push.ensures.ok in
    record {
      value = mapped_more (site_of (subject_of c.args.program.now) lift.graph known) c.args.addresses.now c.loop-address.address-index 0 c.loop-address.sites c.push.new.self site c.loop-address-test.true before.value one.site more;
      called = called_more c.loop-address.sites c.push.new.self site c.loop-address.targets.items c.site_of.new.targets.items more before.called one.targets;
      looked = each_one_more IsLookedSite c.loop-address.sites c.push.new.self site more before.looked one.looked;
    }
