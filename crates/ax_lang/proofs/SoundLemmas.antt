-- Lines without fault: what their rows speak of exists.
use Rattle.std.proofs.Common.{◌≡◌, ◌∙◌, ℕ, suc, ◌+◌, ◌≤◌, ◌<◌, List, [], ◌∷◌, ◌++◌, map, length, length-append, refl, sym, ap, subst, arith, max, Bool, true, false, not, ◌&&◌, ◌||◌, nat_lt, Option, Some, None, if◌then◌else◌, is_some}
use Rattle.std.specs.List.{list_all, list_any}
use Rattle.std.proofs.lemmas.Option.{none-some}
use Rattle.std.proofs.lemmas.Bool.{and_parts, and_from, leb-false, lt-ltb, true≢false, false≢true, not-true, not-false, or_parts}
use Rattle.std.proofs.lemmas.List.{length-map, map-append}
use Rattle.std.proofs.lemmas.List.Folds.{list_all-append}
use Rattle.ax_text.specs.Names.{is_name, are_distinct}
use Rattle.ax_text.specs.Rows.{HandlerLine, EndLine}
use Rattle.ax_text.specs.Valid.{expr_fits}
use Rattle.ax_syntax.specs.declared.shape.KindWord.{KindWord}
use Rattle.ax_syntax.specs.Words.{Word}
use Rattle.ax_syntax.specs.Shapes.{Shape, is_expr, is_exprs, parts_of}
use Rattle.ax_syntax.specs.Shapes as shape
use Rattle.ax_rules.specs.declared.kinds.FaultKind.{FaultKind}
use Rattle.ax_rules.specs.declared.kinds.FaultKind.TheVariants as fault
use Rattle.ax_rules.specs.declared.blocks.Frame.{Frame}
use Rattle.ax_rules.specs.declared.tables.DeclaredState.{DeclaredState}
use Rattle.ax_rules.specs.declared.tables.Tables.{Tables}
use Rattle.ax_rules.specs.declared.blocks.Part.{Part}
use Rattle.ax_rules.specs.Frames.{is_yes, is_one, top_is}
use Rattle.ax_rules.specs.Parts.{set_of, also_of, reads_of, more_of, some_is, with_word}
use Rattle.ax_rules.specs.Lines.{names_of, tables_of}
use Rattle.ax_rules.specs.Faults.{is_state, is_inside, may_stand, is_too_many, is_too_deep, is_twice, is_unknown, is_unknown_use, has_unknown, takes, kind_of, is_unserved, has_wrong_kind, fault_in, fault_by}
use Rattle.ax_rules.specs.Taking.{behind}
use Rattle.ax_rules.proofs.FaultLemmas.{behind_line}
use Rattle.ax_lang.specs.Steps.{row_fits}
use Rattle.ax_lang.specs.Rows.{HandlerLines, no_rows, with_row, row_of, rows_of, place_in, tree_in}
use Rattle.ax_lang.specs.Clean.{WellShaped, Clean}
use Rattle.ax_lang.specs.Programs.{fields_or}
use Rattle.ax_lang.specs.Names.{rows_names}
use Rattle.ax_lang.proofs.CountLemmas.{some_names, last_rows, most_names, last_more, most_more, none_more, none_yet}
use Rattle.ax_lang.proofs.FitLemmas.{rows_grow}
use Rattle.ax_lang.proofs.ExprLemmas.{values_of, is_known, expr_known, exprs_known, all_known}
use Rattle.ax_lang.proofs.NameLemmas.{with_mem, with_keeps, with_place, with_length, put_names, same_names, room, last, one_few, two_few, name_low, places_differ, distinct_last, kinds_in, served, state_fits, value_fits, list_fits, map_fits, put_fits}

if_none : (b : Bool) (k : FaultKind) (r : Option FaultKind) → (if b then Some k else r) ≡ None → (b ≡ false) × (r ≡ None)
if_none true k r h = absurd (none-some k (sym h))
if_none false k r h = (refl, h)

pub record NoFault (t : Tables) (s : Shape) : Type 0 where
  pub stands : may_stand t s ≡ true
  pub few : is_too_many t s ≡ false
  pub once : is_twice t s ≡ false
  pub known : has_unknown t s ≡ false
  pub kind : has_wrong_kind t s ≡ false

pub no_fault : (t : Tables) (s : Shape) → fault_in t s ≡ None → NoFault t s
unfolding fault_in
no_fault t s h =
    let a = if_none (not (may_stand t s)) fault.Word _ h in
    let b = if_none (is_too_many t s) fault.TooMany _ a.1 in
    let c = if_none (is_too_deep t s) fault.TooDeep _ b.1 in
    let d = if_none (is_twice t s) fault.Twice _ c.1 in
    let e = if_none (has_unknown t s) fault.UnknownName _ d.1 in
    let f = if_none (has_wrong_kind t s) fault.Kind _ e.1 in
    record { stands = not-false (may_stand t s) a.0; few = b.0; once = d.0; known = e.0; kind = f.0 }

abbrev pub UpToSixteen : Option ℕ → Type 0
UpToSixteen None = Unit {0}
UpToSixteen (Some n) = n ≤ 16

pub record Sound (t : Tables) (rows : HandlerLines) : Type 0 where
  pub fields : UpToSixteen t.fields
  pub states : length t.states ≤ 64
  pub named : list_all is_name (names_of t.states) ≡ true
  pub distinct : are_distinct (names_of t.states) ≡ true
  pub most : t.most ≤ 256
  pub locals : length t.locals ≤ t.most
  -- as many names as the lines of the last handler have, and the most of a handler's
  pub count : length t.locals ≡ rows_names (last_rows t.timer rows)
  pub all : t.most ≡ most_names rows
  -- a handler is open only behind `on row`, which stands behind `input`
  pub inside : is_inside t ≡ true → t.row ≡ true
  pub input : t.row ≡ true → is_some t.fields ≡ true
  -- before it there are no rows
  pub before : t.row ≡ false → rows ≡ no_rows
  -- and before `on timer` none of it
  pub idle : t.timer ≡ false → rows.timer ≡ []
  -- what rows speak of exists; a timer has no values
  pub row : list_all (row_fits (fields_or t.fields) t.most (kinds_in t.states)) rows.row ≡ true
  pub timer : list_all (row_fits 0 t.most (kinds_in t.states)) rows.timer ≡ true

-- a row, if there is one, goes on to fit

abbrev SomeFits : (HandlerLine → Bool) → Option HandlerLine → Type 0
SomeFits p None = Unit {0}
SomeFits p (Some r) = p r ≡ true

all_with : (p : HandlerLine → Bool) (rows : List HandlerLine) (r : HandlerLine) → list_all p rows ≡ true → p r ≡ true → list_all p (rows ++ r ∷ []) ≡ true
all_with p rows r h g = list_all-append p rows (r ∷ []) ∙ and_from (list_all p rows) (list_all p (r ∷ [])) h (and_from (p r) true g refl)

row_added : (p : HandlerLine → Bool) (timer : Bool) (o : Option HandlerLine) (rows : HandlerLines) → list_all p rows.row ≡ true → (timer ≡ false → SomeFits p o) → list_all p (with_row timer o rows).row ≡ true
row_added p timer None rows h g = h
row_added p true (Some r) rows h g = h
row_added p false (Some r) rows h g = all_with p rows.row r h (g refl)

timer_added : (p : HandlerLine → Bool) (timer : Bool) (o : Option HandlerLine) (rows : HandlerLines) → list_all p rows.timer ≡ true → (timer ≡ true → SomeFits p o) → list_all p (with_row timer o rows).timer ≡ true
timer_added p timer None rows h g = h
timer_added p true (Some r) rows h g = all_with p rows.timer r h (g refl)
timer_added p false (Some r) rows h g = h

no_timer : (timer : Bool) (o : Option HandlerLine) (rows : HandlerLines) → timer ≡ false → rows.timer ≡ [] → (with_row timer o rows).timer ≡ []
no_timer timer None rows q h = h
no_timer true (Some r) rows q h = absurd (true≢false q)
no_timer false (Some r) rows q h = h

-- declarations

-- `input` stands before every handler
no_row : (t : Tables) (rows : HandlerLines) → Sound t rows → is_some t.fields ≡ false → t.row ≡ false
no_row t rows h f = cases t.row refl where
  cases : (b : Bool) → t.row ≡ b → b ≡ false
  cases true g = absurd (true≢false (sym (h.input g) ∙ f))
  cases false g = refl

sound_input : (t : Tables) (rows : HandlerLines) (n : ℕ) → Sound t rows → n ≤ 16 → NoFault t (shape.Input n) → Sound (behind (shape.Input n) t) rows
unfolding behind is_twice
sound_input t rows n h i f =
    let e : rows ≡ no_rows = h.before (no_row t rows h f.once) in
    let low : length t.locals ≤ t.most = h.locals in
    let few : t.most ≤ 256 = h.most in
    record {
      fields = i;
      states = h.states;
      named = h.named;
      distinct = h.distinct;
      most = omega arith;
      locals = omega arith;
      count = h.count;
      all = (let is : t.most ≡ most_names rows = h.all in omega arith);
      inside = h.inside;
      input = λ q. refl;
      before = h.before;
      idle = h.idle;
      row = ap (λ (rs : HandlerLines). list_all (row_fits n (max t.most (length t.locals)) (kinds_in t.states)) rs.row) e;
      timer = ap (λ (rs : HandlerLines). list_all (row_fits 0 (max t.most (length t.locals)) (kinds_in t.states)) rs.timer) e;
    }

sound_state : (t : Tables) (rows : HandlerLines) (name : Word) (kind : KindWord) → Sound t rows → is_name name ≡ true → NoFault t (shape.State name kind) → Sound (behind (shape.State name kind) t) rows
unfolding behind is_twice may_stand
sound_state t rows name kind h w f =
    let before : t.row ≡ false = not-true t.row (and_parts (not (is_inside t) && is_some t.fields) (not t.row) f.stands).1 in
    let e : rows ≡ no_rows = h.before before in
    let room : length t.states < 64 = leb-false 64 (length t.states) (last t (shape.State name kind) f.few) in
    let ds = (behind (shape.State name kind) t).states in
    let names : names_of ds ≡ names_of t.states ++ name ∷ [] = map-append (λ (d : DeclaredState). d.name) t.states _ in
    let most = max t.most (length t.locals) in
    let low : length t.locals ≤ t.most = h.locals in
    let few : t.most ≤ 256 = h.most in
    record {
      fields = h.fields;
      states = (let n : length ds ≡ length t.states + 1 = length-append t.states _ in omega arith);
      named = ap (list_all is_name) names ∙ (list_all-append is_name (names_of t.states) (name ∷ []) ∙ and_from (list_all is_name (names_of t.states)) (list_all is_name (name ∷ [])) h.named (and_from (is_name name) true w refl));
      distinct = ap are_distinct names ∙ distinct_last (names_of t.states) name h.distinct f.once;
      most = omega arith;
      locals = omega arith;
      count = h.count;
      all = (let is : t.most ≡ most_names rows = h.all in omega arith);
      inside = h.inside;
      input = h.input;
      before = h.before;
      idle = h.idle;
      row = ap (λ (rs : HandlerLines). list_all (row_fits (fields_or t.fields) most (kinds_in ds)) rs.row) e;
      timer = ap (λ (rs : HandlerLines). list_all (row_fits 0 most (kinds_in ds)) rs.timer) e;
    }

-- a handler begins
sound_begun : (t : Tables) (rows : HandlerLines) (row timer : Bool) (n : ℕ) (frames : List Frame) (widest : ℕ) → Sound t rows → row ≡ true → (timer ≡ false → rows.timer ≡ []) → is_some t.fields ≡ true → 0 ≡ rows_names (last_rows timer rows)
    → Sound (record { fields = t.fields; states = t.states; row = row; timer = timer; locals = []; statements = n; frames = frames; widest = widest; most = max t.most 0 }) rows
sound_begun t rows row timer n frames widest h r i f none =
    let few : t.most ≤ 256 = h.most in
    record {
      fields = h.fields;
      states = h.states;
      named = h.named;
      distinct = h.distinct;
      most = omega arith;
      locals = omega arith;
      count = none;
      all = (let is : t.most ≡ most_names rows = h.all in omega arith);
      inside = λ q. r;
      input = λ q. f;
      before = λ q. absurd (true≢false (sym r ∙ q));
      idle = i;
      row = rows_grow (fields_or t.fields) (fields_or t.fields) t.most (max t.most 0) (kinds_in t.states) rows.row (omega arith) (omega arith) h.row;
      timer = rows_grow 0 0 t.most (max t.most 0) (kinds_in t.states) rows.timer (omega arith) (omega arith) h.timer;
    }

sound_row : (t : Tables) (rows : HandlerLines) → Sound t rows → NoFault t shape.OnRow → Sound (behind shape.OnRow t) rows
unfolding behind may_stand is_twice
sound_row t rows h f = sound_begun t rows true t.timer _ _ _ h refl h.idle (and_parts (not (is_inside t)) (is_some t.fields) f.stands).1 (none_yet t.timer rows (h.before f.once))

sound_timer : (t : Tables) (rows : HandlerLines) → Sound t rows → NoFault t shape.OnTimer → Sound (behind shape.OnTimer t) rows
unfolding behind may_stand is_twice
sound_timer t rows h f =
    let row : t.row ≡ true = (and_parts (not (is_inside t)) t.row f.stands).1 in
    sound_begun t rows t.row true _ _ _ h row (λ q. absurd (true≢false q)) (h.input row) (ap rows_names (sym (h.idle f.once)))

-- lines of a handler

-- a line of a handler adds its names, and its row
sound_more : (t : Tables) (rows : HandlerLines) (names : List Word) (n : ℕ) (frames : List Frame) (widest : ℕ) (o : Option HandlerLine) → Sound t rows → is_inside t ≡ true → length names ≤ 256 → length names ≡ max (length t.locals) (some_names o)
    → SomeFits (row_fits (values_of t) (max t.most (length names)) (kinds_in t.states)) o
    → Sound (record { fields = t.fields; states = t.states; row = t.row; timer = t.timer; locals = names; statements = n; frames = frames; widest = widest; most = max t.most (length names) }) (with_row t.timer o rows)
sound_more t rows names n frames widest o h inside few count fit =
    let row : t.row ≡ true = h.inside inside in
    let now = t.most in
    let later = max t.most (length names) in
    let so_far : t.most ≤ 256 = h.most in
    let more : t.most ≤ max t.most (length names) = omega arith in
    let ks = kinds_in t.states in
    let fields = fields_or t.fields in
    let here : (b : Bool) → t.timer ≡ b → SomeFits (row_fits (if b then 0 else fields) later ks) o = λ b q. subst (λ (c : Bool). SomeFits (row_fits (if c then 0 else fields) later ks) o) q fit in
    record {
      fields = h.fields;
      states = h.states;
      named = h.named;
      distinct = h.distinct;
      most = omega arith;
      locals = omega arith;
      count = last_more t.timer o rows (length t.locals) (length names) h.count count;
      all = most_more t.timer o rows (length t.locals) t.most (length names) h.count h.all count;
      inside = λ q. row;
      input = h.input;
      before = λ q. absurd (true≢false (sym row ∙ q));
      idle = λ q. no_timer t.timer o rows q (h.idle q);
      row = row_added (row_fits fields later ks) t.timer o rows (rows_grow fields fields now later ks rows.row (omega arith) more h.row) (here false);
      timer = timer_added (row_fits 0 later ks) t.timer o rows (rows_grow 0 0 now later ks rows.timer (omega arith) more h.timer) (here true);
    }

few_locals : (t : Tables) (rows : HandlerLines) → Sound t rows → length t.locals ≤ 256
few_locals t rows h = let low : length t.locals ≤ t.most = h.locals in let few : t.most ≤ 256 = h.most in omega arith

-- what a line reads is known, what it assigns is no state, and its state has the statement
pub record Reads (t : Tables) (s : Shape) : Type 0 where
  pub reads : list_all (is_known t) (reads_of s) ≡ true
  pub more : list_all (is_known t) (more_of s) ≡ true
  pub set : some_is (is_state t) (set_of s) ≡ false
  pub also : some_is (is_state t) (also_of s) ≡ false
  pub served : is_unserved t s ≡ false

pub reads : (t : Tables) (s : Shape) → NoFault t s → Reads t s
unfolding has_unknown has_wrong_kind
reads t s f =
    let a = or_parts _ (is_unknown_use t s) f.known in
    let b = or_parts (list_any (is_unknown t) (reads_of s)) (list_any (is_unknown t) (more_of s)) a.0 in
    let c = or_parts _ (is_unserved t s) f.kind in
    let d = or_parts (list_any (is_state t) (reads_of s) || list_any (is_state t) (more_of s)) _ c.0 in
    let e = or_parts (list_any (is_state t) (reads_of s)) (list_any (is_state t) (more_of s)) d.0 in
    let g = or_parts (some_is (is_state t) (set_of s)) (some_is (is_state t) (also_of s)) d.1 in
    record { reads = all_known t (reads_of s) b.0 e.0; more = all_known t (more_of s) b.1 e.1; set = g.0; also = g.1; served = c.1 }

SoundOn : Tables → HandlerLines → Shape → Type 0
SoundOn t rows s = Sound (behind s t) (with_row (behind s t).timer (row_of (behind s t) s) rows)

sound_let : (t : Tables) (rows : HandlerLines) (name : Word) (value : List Word) → Sound t rows → is_expr value ≡ true → NoFault t (shape.Let name value) → SoundOn t rows (shape.Let name value)
unfolding SoundOn behind row_of may_stand
sound_let t rows name value h w f =
    let r = reads t (shape.Let name value) f in
    let names = with_word (Some name) t.locals in
    let most = max t.most (length names) in
    sound_more t rows names _ _ _ (row_of (behind (shape.Let name value) t) (shape.Let name value)) h f.stands (one_few t name (room t (shape.Let name value) f.few) r.set) (with_length name t.locals)
    (and_from (nat_lt (place_in names name) most) (expr_fits (values_of t) most (tree_in names value)) (name_low names name most (with_mem name t.locals) (omega arith))
    (expr_known t names most value w r.reads (with_keeps name t.locals) (omega arith)))

sound_get : (t : Tables) (rows : HandlerLines) (name state : Word) (missing : List Word) → Sound t rows → is_expr missing ≡ true → NoFault t (shape.Get name state missing) → SoundOn t rows (shape.Get name state missing)
unfolding SoundOn behind row_of may_stand
sound_get t rows name state missing h w f =
    let r = reads t (shape.Get name state missing) f in
    let k = served t (shape.Get name state missing) state refl r.served in
    let names = with_word (Some name) t.locals in
    let most = max t.most (length names) in
    sound_more t rows names _ _ _ (row_of (behind (shape.Get name state missing) t) (shape.Get name state missing)) h f.stands (one_few t name (room t (shape.Get name state missing) f.few) r.set) (with_length name t.locals)
    (and_from _ (expr_fits (values_of t) most (tree_in names missing))
    (and_from (nat_lt (place_in names name) most) _ (name_low names name most (with_mem name t.locals) (omega arith)) (value_fits t.states state k.0 k.1 k.2))
    (expr_known t names most missing w r.reads (with_keeps name t.locals) (omega arith)))

sound_get_at : (t : Tables) (rows : HandlerLines) (name state : Word) (at missing : List Word) → Sound t rows → is_expr at ≡ true → is_expr missing ≡ true → NoFault t (shape.GetAt name state at missing)
    → SoundOn t rows (shape.GetAt name state at missing)
unfolding SoundOn behind row_of may_stand
sound_get_at t rows name state at missing h v w f =
    let r = reads t (shape.GetAt name state at missing) f in
    let k = served t (shape.GetAt name state at missing) state refl r.served in
    let names = with_word (Some name) t.locals in
    let most = max t.most (length names) in
    sound_more t rows names _ _ _ (row_of (behind (shape.GetAt name state at missing) t) (shape.GetAt name state at missing)) h f.stands (one_few t name (room t (shape.GetAt name state at missing) f.few) r.set) (with_length name t.locals)
    (and_from _ _
    (and_from (nat_lt (place_in names name) most) _ (name_low names name most (with_mem name t.locals) (omega arith)) (map_fits t.states state k.0 k.1 k.2))
    (and_from (expr_fits (values_of t) most (tree_in names at)) (expr_fits (values_of t) most (tree_in names missing))
    (expr_known t names most at v r.reads (with_keeps name t.locals) (omega arith))
    (expr_known t names most missing w r.more (with_keeps name t.locals) (omega arith))))

sound_has : (t : Tables) (rows : HandlerLines) (name state : Word) (at : List Word) → Sound t rows → is_expr at ≡ true → NoFault t (shape.Has name state at) → SoundOn t rows (shape.Has name state at)
unfolding SoundOn behind row_of may_stand
sound_has t rows name state at h w f =
    let r = reads t (shape.Has name state at) f in
    let k = served t (shape.Has name state at) state refl r.served in
    let names = with_word (Some name) t.locals in
    let most = max t.most (length names) in
    sound_more t rows names _ _ _ (row_of (behind (shape.Has name state at) t) (shape.Has name state at)) h f.stands (one_few t name (room t (shape.Has name state at) f.few) r.set) (with_length name t.locals)
    (and_from _ (expr_fits (values_of t) most (tree_in names at))
    (and_from (nat_lt (place_in names name) most) _ (name_low names name most (with_mem name t.locals) (omega arith)) (map_fits t.states state k.0 k.1 k.2))
    (expr_known t names most at w r.reads (with_keeps name t.locals) (omega arith)))

sound_empty : (t : Tables) (rows : HandlerLines) (name state : Word) → Sound t rows → NoFault t (shape.Empty name state) → SoundOn t rows (shape.Empty name state)
unfolding SoundOn behind row_of may_stand
sound_empty t rows name state h f =
    let r = reads t (shape.Empty name state) f in
    let k = served t (shape.Empty name state) state refl r.served in
    let names = with_word (Some name) t.locals in
    let most = max t.most (length names) in
    sound_more t rows names _ _ _ (row_of (behind (shape.Empty name state) t) (shape.Empty name state)) h f.stands (one_few t name (room t (shape.Empty name state) f.few) r.set) (with_length name t.locals)
    (and_from (nat_lt (place_in names name) most) _ (name_low names name most (with_mem name t.locals) (omega arith)) (map_fits t.states state k.0 k.1 k.2))

sound_put : (t : Tables) (rows : HandlerLines) (state : Word) (values : List Word) → Sound t rows → is_exprs values ≡ true → NoFault t (shape.Put state values) → SoundOn t rows (shape.Put state values)
unfolding SoundOn behind row_of may_stand
sound_put t rows state values h w f =
    let r = reads t (shape.Put state values) f in
    let k = served t (shape.Put state values) state refl r.served in
    let most = max t.most (length t.locals) in
    let same : length (parts_of values) ≡ length (map (tree_in t.locals) (parts_of values)) = sym (length-map (parts_of values) (tree_in t.locals)) in
    sound_more t rows t.locals _ _ _ (row_of (behind (shape.Put state values) t) (shape.Put state values)) h f.stands (few_locals t rows h)
    (none_more (length t.locals) ∙ ap (λ (n : ℕ). max (length t.locals) n) (sym (put_names (kind_of t.states state) (place_in (names_of t.states) state) (map (tree_in t.locals) (parts_of values)))))
    (put_fits (values_of t) most t.states state k.0 (map (tree_in t.locals) (parts_of values)) k.1 (subst (λ (n : ℕ). takes k.0 n ≡ true) same k.2)
    (exprs_known t t.locals most values w r.reads (same_names t.locals) (omega arith)))

sound_add : (t : Tables) (rows : HandlerLines) (state : Word) (value : List Word) → Sound t rows → is_expr value ≡ true → NoFault t (shape.Add state value) → SoundOn t rows (shape.Add state value)
unfolding SoundOn behind row_of may_stand
sound_add t rows state value h w f =
    let r = reads t (shape.Add state value) f in
    let k = served t (shape.Add state value) state refl r.served in
    let most = max t.most (length t.locals) in
    sound_more t rows t.locals _ _ _ (row_of (behind (shape.Add state value) t) (shape.Add state value)) h f.stands (few_locals t rows h) (none_more (length t.locals))
    (and_from _ (expr_fits (values_of t) most (tree_in t.locals value)) (list_fits t.states state k.0 k.1 k.2) (expr_known t t.locals most value w r.reads (same_names t.locals) (omega arith)))

sound_remove : (t : Tables) (rows : HandlerLines) (state : Word) (at : List Word) → Sound t rows → is_expr at ≡ true → NoFault t (shape.Remove state at) → SoundOn t rows (shape.Remove state at)
unfolding SoundOn behind row_of may_stand
sound_remove t rows state at h w f =
    let r = reads t (shape.Remove state at) f in
    let k = served t (shape.Remove state at) state refl r.served in
    let most = max t.most (length t.locals) in
    sound_more t rows t.locals _ _ _ (row_of (behind (shape.Remove state at) t) (shape.Remove state at)) h f.stands (few_locals t rows h) (none_more (length t.locals))
    (and_from _ (expr_fits (values_of t) most (tree_in t.locals at)) (map_fits t.states state k.0 k.1 k.2) (expr_known t t.locals most at w r.reads (same_names t.locals) (omega arith)))

sound_clear : (t : Tables) (rows : HandlerLines) (state : Word) → Sound t rows → NoFault t (shape.Clear state) → SoundOn t rows (shape.Clear state)
unfolding SoundOn behind row_of may_stand
sound_clear t rows state h f =
    let r = reads t (shape.Clear state) f in
    let k = served t (shape.Clear state) state refl r.served in
    sound_more t rows t.locals _ _ _ (row_of (behind (shape.Clear state) t) (shape.Clear state)) h f.stands (few_locals t rows h) (none_more (length t.locals)) (and_parts _ _ (state_fits t.states state k.0 k.1)).0

sound_if : (t : Tables) (rows : HandlerLines) (test : List Word) → Sound t rows → is_expr test ≡ true → NoFault t (shape.If test) → SoundOn t rows (shape.If test)
unfolding SoundOn behind row_of may_stand
sound_if t rows test h w f =
    sound_more t rows t.locals _ _ _ (row_of (behind (shape.If test) t) (shape.If test)) h f.stands (few_locals t rows h) (none_more (length t.locals))
    (expr_known t t.locals (max t.most (length t.locals)) test w (reads t (shape.If test) f).reads (same_names t.locals) (omega arith))

sound_each : (t : Tables) (rows : HandlerLines) (name state : Word) → Sound t rows → NoFault t (shape.Each name state) → SoundOn t rows (shape.Each name state)
unfolding SoundOn behind row_of may_stand
sound_each t rows name state h f =
    let r = reads t (shape.Each name state) f in
    let k = served t (shape.Each name state) state refl r.served in
    let names = with_word (Some name) t.locals in
    let most = max t.most (length names) in
    sound_more t rows names _ _ _ (row_of (behind (shape.Each name state) t) (shape.Each name state)) h f.stands (one_few t name (room t (shape.Each name state) f.few) r.set) (with_length name t.locals)
    (and_from (nat_lt (place_in names name) most) _ (name_low names name most (with_mem name t.locals) (omega arith)) (list_fits t.states state k.0 k.1 k.2))

sound_each_pair : (t : Tables) (rows : HandlerLines) (key number state : Word) → Sound t rows → NoFault t (shape.EachPair key number state) → SoundOn t rows (shape.EachPair key number state)
unfolding SoundOn behind row_of may_stand is_twice
sound_each_pair t rows key number state h f =
    let r = reads t (shape.EachPair key number state) f in
    let k = served t (shape.EachPair key number state) state refl r.served in
    let one = with_word (Some key) t.locals in
    let names = with_word (Some number) one in
    let most = max t.most (length names) in
    let has_key = with_keeps number one key (with_mem key t.locals) in
    let has_number = with_mem number one in
    let first : length one ≡ max (length t.locals) (suc (place_in one key)) = with_length key t.locals in
    let both : length names ≡ max (length one) (suc (place_in names number)) = with_length number one in
    let kept : place_in names key ≡ place_in one key = with_place number one key (with_mem key t.locals) in
    sound_more t rows names _ _ _ (row_of (behind (shape.EachPair key number state) t) (shape.EachPair key number state)) h f.stands (two_few t key number (room t (shape.EachPair key number state) f.few) r.set r.also f.once) (omega arith)
    (and_from _ _ (and_from (nat_lt (place_in names key) most && nat_lt (place_in names number) most) _
    (and_from (nat_lt (place_in names key) most) (nat_lt (place_in names number) most) (name_low names key most has_key (omega arith)) (name_low names number most has_number (omega arith)))
    (ap not (places_differ names key number has_key has_number f.once)))
    (map_fits t.states state k.0 k.1 k.2))

sound_emit : (t : Tables) (rows : HandlerLines) (values : List Word) → Sound t rows → is_exprs values ≡ true → NoFault t (shape.Emit values) → SoundOn t rows (shape.Emit values)
unfolding SoundOn behind row_of may_stand
sound_emit t rows values h w f =
    sound_more t rows t.locals _ _ _ (row_of (behind (shape.Emit values) t) (shape.Emit values)) h f.stands (few_locals t rows h) (none_more (length t.locals))
    (exprs_known t t.locals (max t.most (length t.locals)) values w (reads t (shape.Emit values) f).reads (same_names t.locals) (omega arith))

sound_set : (t : Tables) (rows : HandlerLines) (time : List Word) → Sound t rows → is_expr time ≡ true → NoFault t (shape.Timer time) → SoundOn t rows (shape.Timer time)
unfolding SoundOn behind row_of may_stand
sound_set t rows time h w f =
    sound_more t rows t.locals _ _ _ (row_of (behind (shape.Timer time) t) (shape.Timer time)) h f.stands (few_locals t rows h) (none_more (length t.locals))
    (expr_known t t.locals (max t.most (length t.locals)) time w (reads t (shape.Timer time) f).reads (same_names t.locals) (omega arith))

sound_unset : (t : Tables) (rows : HandlerLines) (time : List Word) → Sound t rows → is_expr time ≡ true → NoFault t (shape.Untimer time) → SoundOn t rows (shape.Untimer time)
unfolding SoundOn behind row_of may_stand
sound_unset t rows time h w f =
    sound_more t rows t.locals _ _ _ (row_of (behind (shape.Untimer time) t) (shape.Untimer time)) h f.stands (few_locals t rows h) (none_more (length t.locals))
    (expr_known t t.locals (max t.most (length t.locals)) time w (reads t (shape.Untimer time) f).reads (same_names t.locals) (omega arith))

-- lines of one word

top_inside : (p : Part → Bool) (fs : List Frame) → top_is p fs ≡ true → nat_lt 0 (length fs) ≡ true
top_inside p [] h = absurd (false≢true h)
top_inside p (f ∷ fs) h = lt-ltb 0 (length (f ∷ fs)) (omega arith)

sound_end : (t : Tables) (rows : HandlerLines) → Sound t rows → NoFault t shape.End → SoundOn t rows shape.End
unfolding SoundOn behind row_of may_stand
sound_end t rows h f = sound_more t rows t.locals _ _ _ (row_of (behind shape.End t) shape.End) h (and_parts (is_inside t) _ f.stands).0 (few_locals t rows h) (none (is_inside (behind shape.End t))) (ends (is_inside (behind shape.End t))) where
  none : (b : Bool) → length t.locals ≡ max (length t.locals) (some_names (if b then Some EndLine else None))
  none true = none_more (length t.locals)
  none false = none_more (length t.locals)

  ends : (b : Bool) → SomeFits (row_fits (values_of t) (max t.most (length t.locals)) (kinds_in t.states)) (if b then Some EndLine else None)
  ends true = refl
  ends false = tt

sound_else : (t : Tables) (rows : HandlerLines) → Sound t rows → NoFault t shape.Else → SoundOn t rows shape.Else
unfolding SoundOn behind row_of may_stand
sound_else t rows h f = sound_more t rows t.locals _ _ _ (row_of (behind shape.Else t) shape.Else) h (top_inside is_yes t.frames f.stands) (few_locals t rows h) (none_more (length t.locals)) refl

sound_with : (t : Tables) (rows : HandlerLines) → Sound t rows → NoFault t shape.With → SoundOn t rows shape.With
unfolding SoundOn behind row_of may_stand
sound_with t rows h f = sound_more t rows t.locals _ _ _ (row_of (behind shape.With t) shape.With) h (top_inside is_one t.frames f.stands) (few_locals t rows h) (none_more (length t.locals)) refl

sound_both : (t : Tables) (rows : HandlerLines) → Sound t rows → NoFault t shape.Both → SoundOn t rows shape.Both
unfolding SoundOn behind row_of may_stand
sound_both t rows h f = sound_more t rows t.locals _ _ _ (row_of (behind shape.Both t) shape.Both) h f.stands (few_locals t rows h) (none_more (length t.locals)) refl

-- a line without fault
sound_shape : (t : Tables) (rows : HandlerLines) (s : Shape) → Sound t rows → WellShaped s → NoFault t s → SoundOn t rows s
unfolding SoundOn row_of
sound_shape t rows (shape.Input a) h i f = sound_input t rows a h i f
sound_shape t rows (shape.State a b) h i f = sound_state t rows a b h i f
sound_shape t rows shape.OnRow h i f = sound_row t rows h f
sound_shape t rows shape.OnTimer h i f = sound_timer t rows h f
sound_shape t rows shape.End h i f = sound_end t rows h f
sound_shape t rows (shape.Let a b) h i f = sound_let t rows a b h i.1 f
sound_shape t rows (shape.Get a b c) h i f = sound_get t rows a b c h i.1 f
sound_shape t rows (shape.GetAt a b c d) h i f = sound_get_at t rows a b c d h i.1 i.2 f
sound_shape t rows (shape.Has a b c) h i f = sound_has t rows a b c h i.1 f
sound_shape t rows (shape.Empty a b) h i f = sound_empty t rows a b h f
sound_shape t rows (shape.Put a b) h i f = sound_put t rows a b h i f
sound_shape t rows (shape.Add a b) h i f = sound_add t rows a b h i f
sound_shape t rows (shape.Remove a b) h i f = sound_remove t rows a b h i f
sound_shape t rows (shape.Clear a) h i f = sound_clear t rows a h f
sound_shape t rows (shape.If a) h i f = sound_if t rows a h i f
sound_shape t rows shape.Else h i f = sound_else t rows h f
sound_shape t rows (shape.Each a b) h i f = sound_each t rows a b h f
sound_shape t rows (shape.EachPair a b c) h i f = sound_each_pair t rows a b c h f
sound_shape t rows shape.Both h i f = sound_both t rows h f
sound_shape t rows shape.With h i f = sound_with t rows h f
sound_shape t rows (shape.Emit a) h i f = sound_emit t rows a h i f
sound_shape t rows (shape.Timer a) h i f = sound_set t rows a h i f
sound_shape t rows (shape.Untimer a) h i f = sound_unset t rows a h i f

sound_none : Sound (tables_of []) no_rows
unfolding tables_of
sound_none = record {
  fields = tt;
  states = omega arith;
  named = refl;
  distinct = refl;
  most = omega arith;
  locals = omega arith;
  count = refl;
  all = refl;
  inside = λ q. absurd (false≢true q);
  input = λ q. absurd (false≢true q);
  before = λ q. refl;
  idle = λ q. refl;
  row = refl;
  timer = refl;
}

-- lines without fault
pub sound_lines : (ls : List Shape) → Clean ls → Sound (tables_of ls) (rows_of ls)
unfolding fault_by SoundOn
sound_lines [] c = sound_none
sound_lines (s ∷ ls) c =
    let t = tables_of ls in
    subst (λ (u : Tables). Sound u (with_row u.timer (row_of u s) (rows_of ls))) (sym (behind_line s ls))
    (sound_shape t (rows_of ls) s (sound_lines ls c.2) c.0 (no_fault t s c.1))

states_in : (t : Tables) (s : Shape) → is_too_many t s ≡ false → length t.states ≤ 64 → length (behind s t).states ≤ 64
unfolding behind
states_in t (shape.State a b) f h =
    let low : length t.states < 64 = leb-false 64 (length t.states) (last t (shape.State a b) f) in
    let n : length (behind (shape.State a b) t).states ≡ length t.states + 1 = length-append t.states _ in
    omega arith
states_in t s f h = h

-- there are at most 64 states behind a line without fault
pub few_states : (t : Tables) (s : Shape) → fault_in t s ≡ None → length t.states ≤ 64 → length (behind s t).states ≤ 64
few_states t s f h = states_in t s (no_fault t s f).few h
