-- The executable that is made out of a number of functions.
use Rattle.std.specs.Prelude.{ℕ, ◌==◌, if◌then◌else◌, List, [], ◌∷◌, ◌++◌}
use Rattle.image_maker.specs.Executable.{executable}
use Rattle.image_maker.specs.Functions.{start, functions}

-- the most functions
abbrev pub most_functions : ℕ
most_functions = 20000

-- its code: the start and the functions; where there are none, a return
abbrev pub code_of : ℕ → List ℕ
code_of count = if count == 0 then 0xC3 ∷ [] else start ++ functions count count

-- the executable with so many functions
abbrev pub made_of : ℕ → List ℕ
made_of count = executable (code_of count)
