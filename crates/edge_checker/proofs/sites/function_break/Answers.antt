use Rattle.graph_data.specs.WellFormed.{IsSite}
use Rattle.edge_checker.proofs.PlaceLemmas.{each_at}
use Rattle.edge_checker.proofs.FormLemmas.{sites_formed, sites_ascend}
use Rattle.edge_checker.proofs.sites.function_break.Goals as goal

pub begins-requires : goal.begins-requires
begins-requires c = sites_ascend c.args.f.now c.requires.function

pub site_break-requires-clause-sites : goal.site_break-requires-clause-sites
site_break-requires-clause-sites c = sites_ascend c.args.f.now c.requires.function

pub site_break-requires-clause-site : goal.site_break-requires-clause-site
site_break-requires-clause-site c = each_at IsSite (sites_formed c.args.f.now c.requires.function) c.as_slice-site-items.ensures c.loop-site-test.true c.site-item.is
