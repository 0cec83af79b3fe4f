-- What is seen to be in form by a look at the parts of a function.
use Rattle.sym_terms.specs.Normal.{IsTerm}
use Rattle.memory_regions.specs.declared.region.Region.{Region}
use Rattle.graph_data.specs.declared.graph.Vertex.{Vertex}
use Rattle.graph_data.specs.declared.graph.Site.{Site}
use Rattle.graph_data.specs.declared.graph.Function.{Function}
use Rattle.graph_data.specs.Parts.{Each}
use Rattle.graph_data.specs.WellFormed.{IsEdge, IsKind, IsNumber, IsPred}

-- the address of a region is a term
abbrev pub IsRegionTerm : Region → Type 0
IsRegionTerm r = IsTerm r.at

-- the addresses of both regions of a pair are terms
abbrev pub ArePairTerms : Region × Region → Type 0
ArePairTerms p = IsTerm p.0.at × IsTerm p.1.at

-- a vertex has terms everywhere, and numbers of 64 bits, and of 32 bits as numbers of vertices
pub record IsLookedVertex (v : Vertex) : Type 0 where
  pub pred : IsPred v.pred
  pub edges : Each IsEdge v.out

-- so has a site
pub record IsLookedSite (x : Site) : Type 0 where
  pub addr : IsNumber x.addr
  pub kind : IsKind x.kind
  pub seps : Each ArePairTerms x.seps
  pub keeps : Each IsRegionTerm x.keeps
  pub vertices : Each IsLookedVertex x.vertices

-- and each site of a function
pub record AreLooked (f : Function) : Type 0 where
  pub entry : IsNumber f.entry
  pub sites : Each IsLookedSite f.sites
