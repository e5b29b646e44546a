use Rattle.ax_task.proofs.task.Task.step.Given as goal

-- what the sink held before the step, and its base
abbrev pub ghosts-advance : goal.ghosts-advance
ghosts-advance g a = record { held = g.K.Sink.holds a.out.now; base = g.K.Sink.base a.out.now }
