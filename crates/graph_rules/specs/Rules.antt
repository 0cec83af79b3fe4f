-- The rules of a graph, as the theorem over runs has them, with the step of every instruction.
use Rattle.std.specs.Prelude.{◌≡◌, true, map}
use Rattle.std.specs.Option.{option_map}
use Rattle.simulation.specs.World.{Rules, View, Case}
use Rattle.memory_regions.specs.declared.region.Region.{Region}
use Rattle.elf_image.specs.declared.image.Image.{Image}
use Rattle.predicates.specs.Predicate.{Predicate}
use Rattle.predicates.specs.Entry.{entry_predicate}
use Rattle.predicates.specs.Entails.{Entails}
use Rattle.predicate_meaning.specs.Begin.{Began}
use Rattle.predicate_meaning.specs.Returns.{Returns}
use Rattle.graph_data.specs.WellFormed.{IsPred}
use Rattle.graph_runs.specs.World.{x86}
use Rattle.step_rules.specs.View as step
use Rattle.step_rules.specs.Cases as step_cases
use Rattle.step_rules.specs.Calls.{after, call_target, KeepsHold}
use Rattle.step_rules.specs.Site.{fork_holds, PairsUndecided}

-- what the step rules know of a site of an executable
abbrev pub view_of : Image → View Region → step.View
view_of image view = record {
  known = record { image = image; below = view.below; above = view.above; seps = view.seps };
  fork = view.fork;
  keeps = view.keeps;
}

-- a case, as the theorem has it
abbrev pub case_of : step_cases.Case → Case Predicate
case_of c = record { address = c.address; pred = c.pred }

-- the rules of the graphs of an executable
abbrev pub rules : (image : Image) → Rules (x86 image)
rules image =
    record {
      Began = Began;
      IsFormed = IsPred;
      IsEntry = λ pred. pred ≡ entry_predicate;
      Entails = Entails;
      Returns = Returns;
      cases = λ view instr pred. option_map (map case_of) (step_cases.cases (view_of image view) instr pred);
      after = λ view instr pred. after (view_of image view) instr pred;
      target = λ view instr pred. call_target (view_of image view) instr pred;
      KeepsHold = λ view instr pred. KeepsHold (view_of image view) instr pred;
      SiteFact = λ kind view. PairsUndecided (view_of image view);
      ForkHolds = λ view instr pred. fork_holds (view_of image view) instr pred ≡ true;
    }
