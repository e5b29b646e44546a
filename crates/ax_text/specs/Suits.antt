-- Each request that a handler may make, now or later, is to a state that exists, and of a kind that serves it.
use Rattle.std.specs.Prelude.{◌≡◌, ◌∷◌, [], List, length, Bool, true, ◌&&◌, nat_lt}
use Rattle.std.specs.List.{slice_index_or}
use Rattle.ax_text.specs.declared.vocabulary.Kind.{Kind}
use Rattle.ax_text.specs.declared.vocabulary.Kind.TheVariants as kind
use Rattle.ax_text.specs.declared.vocabulary.Request.{Request}
use Rattle.ax_text.specs.Cells.{state_of, serves}
use Rattle.ax_text.specs.Exprs.{Facts, Names}
use Rattle.ax_text.specs.Texts.{Text, Stop, Act, Ask, If, Each, Both}
use Rattle.ax_text.specs.Run.{request_of, loop_request}
use Rattle.ax_text.specs.Controls.{Frame, Rest, Turns, Cursor, Next, Take, Begin, Control, Done, Wait, Arms, Ask'}

-- whether the state that a request names exists, and is of a kind that serves it
abbrev pub fits_in : List Kind → Request → Bool
fits_in kinds r = nat_lt (state_of r) (length kinds) && serves (slice_index_or kinds (state_of r) kind.Value) r

-- whatever its expressions come to
unfoldable pub TextSuits : List Kind → Text → Type 0
TextSuits kinds Stop = Unit {0}
TextSuits kinds (Act q t) = TextSuits kinds t
TextSuits kinds (Ask a t) = ((f : Facts) (names : Names) → fits_in kinds (request_of f a names) ≡ true) × TextSuits kinds t
TextSuits kinds (If e a b t) = TextSuits kinds a × TextSuits kinds b × TextSuits kinds t
TextSuits kinds (Each l body t) = (fits_in kinds (loop_request l) ≡ true) × TextSuits kinds body × TextSuits kinds t
TextSuits kinds (Both a b t) = TextSuits kinds a × TextSuits kinds b × TextSuits kinds t

unfoldable pub FrameSuits : List Kind → Frame → Type 0
FrameSuits kinds (Rest t) = TextSuits kinds t
FrameSuits kinds (Turns l ps body) = TextSuits kinds body

unfoldable pub CursorSuits : List Kind → Cursor → Type 0
CursorSuits kinds [] = Unit {0}
CursorSuits kinds (x ∷ k) = FrameSuits kinds x × CursorSuits kinds k

unfoldable pub NextSuits : List Kind → Next → Type 0
NextSuits kinds (Take x) = Unit {0}
NextSuits kinds (Begin l body) = TextSuits kinds body

-- what waits, and what comes after it
unfoldable pub Suits : List Kind → Control → Type 0
Suits kinds Done = Unit {0}
Suits kinds (Wait s r x k) = (fits_in kinds r ≡ true) × NextSuits kinds x × CursorSuits kinds k
Suits kinds (Arms one two k) = Suits kinds one × Suits kinds two × CursorSuits kinds k

-- so each of these
unfoldable pub AsksSuit : List Kind → List Ask' → Type 0
AsksSuit kinds [] = Unit {0}
AsksSuit kinds (a ∷ as') = (fits_in kinds a.request ≡ true) × AsksSuit kinds as'
