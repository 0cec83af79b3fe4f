use Rattle.simulation_example.proofs.runs.runs_are_safe.Goals as goal

pub returns : goal.returns
returns c = λ image.
    c.simulation.ensures.simulates image
    (record {
      state = c.base_laws.ensures.state image;
      begin = c.base_laws.ensures.begin image;
      entry = c.base_laws.ensures.entry image;
      entails = c.base_laws.ensures.entails image;
      step = c.step_law.ensures image;
      target = c.target_laws.ensures.target image;
      push = c.target_laws.ensures.push image;
      call = c.call_laws.ensures.call image;
      outside = c.call_laws.ensures.outside image;
      syscall = c.call_laws.ensures.syscall image;
      return = c.return_law.ensures image;
    })
