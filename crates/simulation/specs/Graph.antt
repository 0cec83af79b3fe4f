-- What the look-ups in a graph find: the first that fits.
use Rattle.std.specs.Prelude.{ℕ, Option, Some, None, ◌==◌, if◌then◌else◌, find, slice_get}
use Rattle.std.specs.Option.{option_and_then}
use Rattle.simulation.specs.World.{World, View}

module _ (world : World) where
  -- the first site of the function at the address
  abbrev pub site_at : world.Function → ℕ → Option world.Site
  site_at function address = find (λ site. world.address site == address) (world.sites function)

  -- the vertex with the number, at the first site of the address
  abbrev pub vertex_at : world.Function → ℕ → ℕ → Option world.Vertex
  vertex_at function address number =
      option_and_then (λ site. slice_get (world.vertices site) number) (site_at function address)

  -- the first function with the entry
  abbrev pub function_at : world.Graph → ℕ → Option world.Function
  function_at graph entry =
      find (λ function. world.entry function == entry) (world.functions graph)

  -- the function, unless it is refused
  abbrev pub unless_refused : world.Function → Option world.Function
  unless_refused function = if (world.refused function) then None else Some function

  -- the function that a call of the entry begins
  abbrev pub callee : world.Graph → ℕ → Option world.Function
  callee graph entry = option_and_then unless_refused (function_at graph entry)

  -- what the step rules see of a site
  abbrev pub view_of : world.Function → world.Site → View world.Region
  view_of function site =
      record {
        address = world.address site;
        below = world.below function;
        above = world.above function;
        seps = world.seps site;
        fork = world.fork site;
        keeps = world.keeps site;
      }
