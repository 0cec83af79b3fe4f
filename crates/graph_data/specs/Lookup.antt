-- Looking up a function by its entry and a site by its address: the first that fits.
use Rattle.std.specs.Prelude.{ℕ, ◌==◌, find}
use Rattle.std.specs.declared.option.Option.{Option}
use Rattle.graph_data.specs.declared.graph.Site.{Site}
use Rattle.graph_data.specs.declared.graph.Function.{Function}
use Rattle.graph_data.specs.declared.graph.Graph.{Graph}

-- the first site with the address
abbrev pub site_at : Function → ℕ → Option Site
site_at f addr = find (λ s. s.addr == addr) f.sites

-- the first function with the entry
abbrev pub function_at : Graph → ℕ → Option Function
function_at g entry = find (λ f. f.entry == entry) g.functions
