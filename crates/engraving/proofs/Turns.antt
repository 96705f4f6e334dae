-- What is owed, one turn of each loop later: of values, of bars and of events. Assumes nothing.
use Rattle.std.proofs.Common.{◌≡◌, ℕ, zero, suc, ◌+◌, ◌-◌, ◌*◌, ◌%◌, ◌<◌, ◌≤◌, true, eqb, ltb, leb, ◌⊎◌, List, [], ◌∷◌, length, get_or, drop, sym, ap, ◌∙◌, subst, ap₂, inl, inr, arith}
use Rattle.std.proofs.lemmas.List.{get_or-drop, drop-drop}
use Rattle.std.proofs.lemmas.Bool.{eq-eqb, ne_eqb, le-leb, lt-leb, leb-true, and_parts, cases_lt}
use Rattle.score.specs.Music.{pick, Event, all_fine}
use Rattle.score.specs.Print.{Symbol, bar, all_values, largest, pieces, lesser, so_many}
use Rattle.score.proofs.Picks.{pick_true, pick_false, pick_both}
use Rattle.laws.specs.Owed.{one, owed, rest_from}
use Rattle.laws.proofs.Laid.{lesser_both}
use Rattle.laws.proofs.Owing.{ended, owed_line, owed_value, so_many_one, so_many_line, so_many_none, so_many_end}
use Rattle.laws.proofs.Rows.{rest_of, voice_at, voice_drop, voice_end, fine_from, Words, fine_words, lasts_words, place_words}
use Rattle.laws.proofs.Walk.{rest_none}
use Rattle.lengths.specs.Drawn.{InBar}
use Rattle.lengths.proofs.Drawing.{value_known, values_over}
use Rattle.rows.specs.declared.Row.{Row}
use Rattle.rows.specs.declared.Rows.{Rows}
use Rattle.rows.specs.Rows.{event_in, row_at, voice_in}
use Rattle.score.specs.declared.Layout.{Layout}
use Rattle.engraving.specs.Shown.{left_of}
use Rattle.engraving.specs.Voice.{Ready}

-- in the middle of an event: n bars of d ticks at place p, from tick o of a bar on, and of the events behind it with their signs
unfoldable pub in_event : ℕ → ℕ → ℕ → ℕ → ℕ → List Event → List ℕ → ℕ → List Symbol
in_event b o p s d es sg n = so_many (owed b o p s d es sg) n

-- before an event, with t ticks still to pass over
unfoldable pub in_voice : ℕ → ℕ → ℕ → List Event → List ℕ → ℕ → List Symbol
in_voice b t o es sg n = so_many (rest_from b t o es sg) n

pub times_three : (n b : ℕ) → b % 3 ≡ 0 → (n * b) % 3 ≡ 0
times_three zero b h = ap (λ (x : ℕ). x % 3) (let z : 0 * b ≡ 0 = omega arith in z)
times_three (suc n) b h = let i = times_three n b h in omega arith

-- the events of rows from number i on
abbrev pub events_from : Rows → ℕ → List Event
events_from r i = rest_of r.places.now r.alterations.now r.lengths.now i

-- where it begins
pub starts_voice : (r : Rows) (b : ℕ) (ss : List ℕ) (i t n : ℕ) → in_voice b t 0 (events_from r i) (drop i ss) n ≡ left_of b (voice_in r) ss i t n
unfolding in_voice
starts_voice r b ss i t n = ap (λ (es : List Event). so_many (rest_from b t 0 es (drop i ss)) n) (sym (voice_drop r.places.now r.alterations.now r.lengths.now i))

-- d ticks of an event are left, of which k lie behind the part of it that is in this bar; that part ends at tick e, with the event or with the bar
pub record Part (b e k d : ℕ) : Type 0 where
  pub behind : k ≤ d
  pub begun : d ≤ e + k
  pub within : e ≤ b
  pub ends : (k ≡ 0) ⊎ (e ≡ b)
  pub three : e % 3 ≡ 0
  pub behind_three : k % 3 ≡ 0
  pub left_three : d % 3 ≡ 0

-- at which tick of the bar that is
abbrev pub tick : ℕ → ℕ → ℕ → ℕ
tick e k d = e + k - d

-- before its first value the part is all that the bar has room for
pub part_turn : (b o d p : ℕ) → InBar d b o p → o < b → b % 3 ≡ 0 → o % 3 ≡ 0 → d % 3 ≡ 0 → Part b (o + p) (d - p) d
part_turn b o d p g h b3 o3 d3 =
    let p3 = g.three d3 b3 o3 in
    let l = g.within in
    record { behind = omega arith; begun = omega arith; within = g.fits; ends = go (lesser_both d (b - o)).2; three = omega arith; behind_three = omega arith; left_three = d3 }
  where
    go : (lesser d (b - o) ≡ d) ⊎ (lesser d (b - o) ≡ b - o) → (d - p ≡ 0) ⊎ (o + p ≡ b)
    go (inl e) = inl (omega (arith, g.is))
    go (inr e) = inr (omega (arith, g.is))

-- it begins where the bar stands, and its values are those of what the bar takes
pub part_begins : (b o p d q s : ℕ) (es : List Event) (sg : List ℕ) (n : ℕ) → q ≤ d → in_event b o p s d es sg n ≡ in_event b (tick (o + q) (d - q) d) p s d es sg n
part_begins b o p d q s es sg n h = let t : o ≡ tick (o + q) (d - q) d = omega arith in ap (λ (x : ℕ). in_event b x p s d es sg n) t

pub part_values : (d q m : ℕ) → m ≡ q → q ≤ d → pieces m m ≡ pieces (d - (d - q)) (d - (d - q))
part_values d q m e h = let t : m ≡ d - (d - q) = omega arith in ap (λ (x : ℕ). pieces x x) t

-- what is left of event and bar is what is left of the part
least : (b e k d : ℕ) → Part b e k d → lesser d (b - tick e k d) ≡ d - k
least b e k d w = go w.ends
  where
    go : (k ≡ 0) ⊎ (e ≡ b) → lesser d (b - tick e k d) ≡ d - k
    go (inl z) = pick_true _ _ _ (le-leb d (b - tick e k d) (omega (arith, w.begun, w.within))) ∙ (omega arith)
    go (inr z) = pick_both (λ (x : ℕ). x ≡ d - k) (leb d (b - tick e k d)) d (b - tick e k d) (λ t. omega (arith, w.behind, w.begun, leb-true d (b - tick e k d) t)) (λ _. omega (arith, w.behind, w.begun))

-- a value: the largest that is not too long for what is left of the part, as the values that are left begin with it
pub record Value (b e k p s d v : ℕ) (vs : List ℕ) (es : List Event) (sg : List ℕ) (n : ℕ) : Type 0 where
  pub small : v ≤ 192
  pub within : v ≤ d
  pub part : Part b e k (d - v)
  pub then : vs ≡ pieces (d - v - k) (d - v - k)
  pub owes : in_event b (tick e k d) p s d es sg n ≡ one p s v (ltb 0 (d - v)) ∷ in_event b (tick e k (d - v)) p 0 (d - v) es sg n

pub value_turn : (b e k p s d v : ℕ) (vs us : List ℕ) (es : List Event) (sg : List ℕ) (n : ℕ) → Part b e k d → b % 3 ≡ 0 → 0 < n →
    us ≡ pieces (d - k) (d - k) → us ≡ v ∷ vs → Value b e k p s d v vs es sg n
unfolding in_event
value_turn b e k p s d v vs us es sg n w b3 m q f =
    let g = value_known (d - k) v vs (sym q ∙ f) in
    let some = g.1 in
    let fits = g.0.within in
    let l : (k ≤ d) × (d ≤ e + k) × (e ≤ b) × (e % 3 ≡ 0) × (k % 3 ≡ 0) × (d % 3 ≡ 0) = (w.behind, w.begun, w.within, w.three, w.behind_three, w.left_three) in
    let t : tick e k d + v ≡ tick e k (d - v) = omega (arith, l) in
    let u : d - k - v ≡ d - v - k = omega arith in
    record {
      small = g.0.small;
      within = omega arith;
      part = record { behind = omega (arith, l); begun = omega (arith, l); within = w.within; ends = w.ends; three = w.three; behind_three = w.behind_three; left_three = omega (arith, l, g.0.three) };
      then = g.2 ∙ ap (λ (x : ℕ). pieces x x) u;
      owes =
          ap (λ (xs : List Symbol). so_many xs n)
          (owed_value b (tick e k d) p s d v es sg (omega (arith, l)) (omega (arith, l)) b3 (omega (arith, l)) w.left_three (g.0.is ∙ ap (λ (x : ℕ). largest x all_values) (sym (least b e k d w))))
          ∙ so_many_one p s v (ltb 0 (d - v)) (owed b (tick e k d + v) p 0 (d - v) es sg) n m
          ∙ ap (λ (x : ℕ). one p s v (ltb 0 (d - v)) ∷ in_event b x p 0 (d - v) es sg n) t;
    }

-- where no value is left, the part is over
pub values_turn : (b e k d : ℕ) (us : List ℕ) → Part b e k d → us ≡ pieces (d - k) (d - k) → us ≡ [] → d ≡ k
values_turn b e k d us w q f =
    let z : d - k ≡ 0 = values_over (d - k) (sym q ∙ f) (omega (arith, w.behind, w.left_three, w.behind_three)) in
    omega (arith, w.behind)

-- and then the bar stands where the part ends
pub part_over : (b e k p s d : ℕ) (es : List Event) (sg : List ℕ) (n : ℕ) → d ≡ k → in_event b (tick e k d) p s d es sg n ≡ in_event b e p s d es sg n
part_over b e k p s d es sg n h = let t : tick e k d ≡ e = omega arith in ap (λ (x : ℕ). in_event b x p s d es sg n) t

-- a bar line: then another bar, or none
pub line_turn : (b o p s d : ℕ) (es : List Event) (sg : List ℕ) (n : ℕ) → 0 < b → o ≡ b → 0 < n → in_event b o p s d es sg n ≡ bar ∷ in_event b 0 p s d es sg (n - 1)
unfolding in_event
line_turn b o p s d es sg n h e m =
    ap (λ (x : ℕ). so_many (owed b x p s d es sg) n) e
    ∙ ap (λ (xs : List Symbol). so_many xs n) (owed_line b p s d es sg h)
    ∙ so_many_line (owed b 0 p s d es sg) n m

pub no_bar : (b o p s d : ℕ) (es : List Event) (sg : List ℕ) (n : ℕ) → n ≡ 0 → in_event b o p s d es sg n ≡ []
unfolding in_event
no_bar b o p s d es sg n e = ap (so_many (owed b o p s d es sg)) e ∙ so_many_none (owed b o p s d es sg)

-- the event whose turn it is, and those behind it
pub record Turn (es : List Event) (w : Row) (fs : List Event) : Type 0 where
  pub event : es ≡ event_in w ∷ fs
  pub words : Words w.place w.alteration w.length
  pub others : all_fine fs ≡ true

pub turn_of : (es : List Event) (w : Row) (fs : List Event) → all_fine es ≡ true → es ≡ event_in w ∷ fs → Turn es w fs
unfolding all_fine
turn_of es w fs f e = let q = and_parts _ _ (sym (ap all_fine e) ∙ f) in record { event = e; words = fine_words _ _ _ q.0; others = q.1 }

pub turn : (r : Rows) (y : Layout) (i : ℕ) (w : Row) → Ready r y → i < length r.lengths.now → w ≡ row_at r i → Turn (events_from r i) w (events_from r (i + 1))
turn r y i w g h e =
    subst (λ (x : Row). Turn (events_from r i) x (events_from r (i + 1))) (sym e)
    (turn_of _ _ _ (fine_from r.places.now r.alterations.now r.lengths.now i g.fine) (voice_at r.places.now r.alterations.now r.lengths.now i h g.same_places g.same_alterations))

-- the event of a turn, which is number i: it is passed over, or what is left of it is owed
this_turn : {es fs : List Event} {w : Row} (b t o i : ℕ) (ss : List ℕ) (n : ℕ) → Turn es w fs →
    in_voice b t o es (drop i ss) n
    ≡ so_many (pick (leb w.length t) (rest_from b (t - w.length) o fs (drop (i + 1) ss))
    (owed b o w.place (pick (eqb t 0) (get_or ss i 0) 0) (w.length - t) fs (drop (i + 1) ss))) n
unfolding in_voice rest_from
this_turn {es} {fs} {w} b t o i ss n g =
    let z : i + 0 ≡ i = omega arith in
    let sign : get_or (drop i ss) 0 0 ≡ get_or ss i 0 = get_or-drop i ss 0 0 ∙ ap (λ (j : ℕ). get_or ss j 0) z in
    ap (λ (gs : List Event). so_many (rest_from b t o gs (drop i ss)) n) g.event
    ∙ ap₂ (λ (d p : ℕ). so_many (pick (leb d t) (rest_from b (t - d) o fs (drop 1 (drop i ss))) (owed b o p (pick (eqb t 0) (get_or (drop i ss) 0 0) 0) (d - t) fs (drop 1 (drop i ss)))) n)
    (lasts_words w.place w.alteration w.length) (place_words w.place w.alteration w.length)
    ∙ ap₂ (λ (s : ℕ) (sg : List ℕ). so_many (pick (leb w.length t) (rest_from b (t - w.length) o fs sg) (owed b o w.place (pick (eqb t 0) s 0) (w.length - t) fs sg)) n)
    sign (drop-drop 1 i ss)

-- an event that is over when all is passed over that is to be
pub pass_turn : {es fs : List Event} {w : Row} (b t o i : ℕ) (ss : List ℕ) (n : ℕ) → Turn es w fs → w.length ≤ t → in_voice b t o es (drop i ss) n ≡ in_voice b (t - w.length) o fs (drop (i + 1) ss) n
unfolding in_voice
pass_turn {es} {fs} {w} b t o i ss n q h = this_turn b t o i ss n q ∙ ap (λ (ys : List Symbol). so_many ys n) (pick_true _ _ _ (le-leb w.length t h))

-- an event has ended
pub end_turn : (b o p s d : ℕ) (es : List Event) (sg : List ℕ) (n : ℕ) → all_fine es ≡ true → o < b → d ≡ 0 → in_event b o p s d es sg n ≡ in_voice b 0 o es sg n
unfolding in_event in_voice
end_turn b o p s d es sg n f l z =
    ap (λ (x : ℕ). so_many (owed b o p s x es sg) n) z ∙ ap (λ (ys : List Symbol). so_many ys n) (ended b o p s es sg l ∙ sym (rest_none b o es sg l f))

-- where g ticks of an event are gone, what is left of it has the event's sign if it begins here
left_turn : {es fs : List Event} {w : Row} (b o g i : ℕ) (ss : List ℕ) (n : ℕ) → Turn es w fs → o < b → g ≤ w.length →
    in_voice b g o es (drop i ss) n ≡ in_event b o w.place (pick (eqb g 0) (get_or ss i 0) 0) (w.length - g) fs (drop (i + 1) ss) n
unfolding in_event
left_turn {es} {fs} {w} b o g i ss n q l h = go (cases_lt g w.length)
  where
    go : (g < w.length) ⊎ (w.length ≤ g) → in_voice b g o es (drop i ss) n ≡ in_event b o w.place (pick (eqb g 0) (get_or ss i 0) 0) (w.length - g) fs (drop (i + 1) ss) n
    go (inl y) = this_turn b g o i ss n q ∙ ap (λ (ys : List Symbol). so_many ys n) (pick_false _ _ _ (lt-leb w.length g y))
    go (inr y) =
        let z : g - w.length ≡ 0 = omega arith in
        pass_turn b g o i ss n q y ∙ ap (λ (t : ℕ). in_voice b t o fs (drop (i + 1) ss) n) z ∙ sym (end_turn b o w.place (pick (eqb g 0) (get_or ss i 0) 0) (w.length - g) fs (drop (i + 1) ss) n q.others l (omega arith))

pub begin_turn : {es fs : List Event} {w : Row} (b o g i : ℕ) (ss : List ℕ) (n : ℕ) → Turn es w fs → o < b → g ≤ w.length → g ≡ 0 →
    in_voice b g o es (drop i ss) n ≡ in_event b o w.place (get_or ss i 0) (w.length - g) fs (drop (i + 1) ss) n
begin_turn {es} {fs} {w} b o g i ss n q l h y =
    left_turn b o g i ss n q l h ∙ ap (λ (s : ℕ). in_event b o w.place s (w.length - g) fs (drop (i + 1) ss) n) (pick_true _ _ _ (eq-eqb g 0 y))

pub middle_turn : {es fs : List Event} {w : Row} (b o g i : ℕ) (ss : List ℕ) (n : ℕ) → Turn es w fs → o < b → g ≤ w.length → (g ≡ 0 → ⊥) →
    in_voice b g o es (drop i ss) n ≡ in_event b o w.place 0 (w.length - g) fs (drop (i + 1) ss) n
middle_turn {es} {fs} {w} b o g i ss n q l h y =
    left_turn b o g i ss n q l h ∙ ap (λ (s : ℕ). in_event b o w.place s (w.length - g) fs (drop (i + 1) ss) n) (pick_false _ _ _ (ne_eqb g 0 y))

-- behind the last event nothing is owed
pub no_event : (b t o : ℕ) (sg : List ℕ) (r : Rows) (i n : ℕ) → length r.lengths.now ≤ i → length r.places.now ≡ length r.lengths.now → in_voice b t o (events_from r i) sg n ≡ []
unfolding in_voice rest_from
no_event b t o sg r i n h e = ap (λ (es : List Event). so_many (rest_from b t o es sg) n) (voice_end r.places.now r.alterations.now r.lengths.now i h e) ∙ so_many_end n

-- no bars are no symbols
pub none_asked : (b : ℕ) (es : List Event) (sg : List ℕ) (i t n : ℕ) → n ≡ 0 → left_of b es sg i t n ≡ []
none_asked b es sg i t n e = ap (so_many (rest_from b t 0 (drop i es) (drop i sg))) e ∙ so_many_none (rest_from b t 0 (drop i es) (drop i sg))
