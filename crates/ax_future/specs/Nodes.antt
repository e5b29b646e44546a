-- What the code's nodes stand for.
use Rattle.std.specs.Prelude.{ℕ, max, List, [], ◌∷◌, ◌++◌, drop, ◌-◌, length, slice_get, Option, Some, None}
use Rattle.ax_text.specs.Run.{After}
use Rattle.ax_text.specs.Run as run
use Rattle.ax_text.specs.Controls.{Frame, Cursor, Next, Control}
use Rattle.ax_text.specs.Controls as control
use Rattle.ax_lang.specs.declared.program.Program.{Program}
use Rattle.ax_future.specs.declared.node.Repeat.{Repeat}
use Rattle.ax_future.specs.declared.node.Frame.{Frame as CodeFrame}
use Rattle.ax_future.specs.declared.node.Frame.TheVariants as frame
use Rattle.ax_future.specs.declared.node.Assign.{Assign}
use Rattle.ax_future.specs.declared.node.Assign.TheVariants as assign
use Rattle.ax_future.specs.declared.node.Next.{Next as CodeNext}
use Rattle.ax_future.specs.declared.node.Next.TheVariants as next
use Rattle.ax_future.specs.declared.node.Node.{Node}
use Rattle.ax_future.specs.declared.node.Node.TheVariants as node
use Rattle.ax_lang.specs.Forms.{shown_loop}
use Rattle.ax_lang.specs.Shown.{text_from}

-- the turns that are left of an `each`
abbrev pub repeat_in : Program → Repeat → Frame
repeat_in p r = control.Turns (shown_loop r.turn) (drop r.at r.turns) (text_from p r.body)

abbrev pub frame_in : Program → CodeFrame → Frame
frame_in p (frame.Rest place) = control.Rest (text_from p place)
frame_in p (frame.Turns repeat) = repeat_in p repeat.value

-- the code has the innermost frame last
abbrev pub cursor_in : Program → List CodeFrame → Cursor
cursor_in p [] = []
cursor_in p (f ∷ fs) = cursor_in p fs ++ frame_in p f ∷ []

abbrev pub after_in : Assign → After
after_in (assign.Name name missing) = run.Assign name missing
after_in assign.Ignore = run.Ignore

abbrev pub next_in : Program → CodeNext → Next
next_in p (next.Take x) = control.Take (after_in x)
next_in p (next.Begin turn body) = control.Begin (shown_loop turn) (text_from p body)

abbrev pub control_in : Program → Node → Control
control_in p node.Done = control.Done
control_in p (node.Wait slot request next cursor) = control.Wait slot request (next_in p next) (cursor_in p cursor.items)
control_in p (node.Arms' a one b two cursor) = control.Arms (control_in p one) (control_in p two) (cursor_in p cursor.items)

-- what stands behind what is in front
abbrev pub behind : Cursor → Cursor
behind [] = []
behind (x ∷ k) = k

abbrev pub rest_in : Option CodeFrame → Option ℕ
rest_in None = None
rest_in (Some (frame.Rest place)) = Some place
rest_in (Some (frame.Turns repeat)) = None

-- the place in front, where the steps from a place on are in front
abbrev pub front_of : List CodeFrame → Option ℕ
front_of fs = rest_in (slice_get fs (length fs - 1))

-- the highest place that frames name
abbrev pub place_of : CodeFrame → ℕ
place_of (frame.Rest place) = place
place_of (frame.Turns repeat) = repeat.value.body

abbrev pub highest : List CodeFrame → ℕ
highest [] = 0
highest (f ∷ fs) = max (place_of f) (highest fs)
