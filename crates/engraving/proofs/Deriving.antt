-- The signs of events, one event later. Assumes nothing.
use Rattle.std.proofs.Common.{◌≡◌, ℕ, suc, true, slice_index, ◌+◌, ◌/◌, ◌%◌, ◌<◌, ◌≤◌, eqb, leb, List, [], ◌∷◌, ◌++◌, map, length, take, drop, set, sym, refl, ap, ◌∙◌, subst, ap₂, append_assoc, mod-eq_of_lt, arith}
use Rattle.std.proofs.lemmas.List.{take_more_set, drop-set-lt, drop-drop, append-nil, take-append-drop}
use Rattle.std.proofs.lemmas.Bool.{eqb-false, le-leb, lt-leb}
use Rattle.score.specs.Music.{pick, places, alterations, Event, lasts, all_fine}
use Rattle.score.specs.Print.{key, now}
use Rattle.score.proofs.Picks.{pick_true, pick_false, pick_both}
use Rattle.laws.specs.Onsets.{onsets, signs_of}
use Rattle.laws.specs.Owed.{sign_of}
use Rattle.laws.proofs.Onsets.{signs, sign_words, held_words, signs_alike}
use Rattle.laws.proofs.Rows.{lasts_words}
use Rattle.keys.specs.Held.{key_row, held_in, sign_needed, then_holding}
use Rattle.keys.proofs.Holding.{held_key, length_key_row, needed_is, holding_is}
use Rattle.score.specs.declared.Layout.{Layout}
use Rattle.rows.specs.declared.Row.{Row}
use Rattle.rows.specs.declared.Rows.{Rows}
use Rattle.rows.specs.Rows.{event_in, voice_in, zipped}
use Rattle.rows.proofs.Zipped.{voice_zipped, zipped_even}
use Rattle.engraving.specs.Voice.{Ready}
use Rattle.engraving.proofs.Turns.{Turn, turn_of}

-- the row that comes next, and those behind it, if any
pub next : (n m : Rows) (w : Row) → all_fine (voice_in n) ≡ true → zipped n.places.now n.alterations.now n.lengths.now ≡ w ∷ zipped m.places.now m.alterations.now m.lengths.now → Turn (voice_in n) w (voice_in m)
next n m w f e = turn_of _ _ _ f (voice_zipped _ _ _ ∙ ap (map event_in) e ∙ ap (λ (es : List Event). event_in w ∷ es) (sym (voice_zipped _ _ _)))

none_left : (n : Rows) → zipped n.places.now n.alterations.now n.lengths.now ≡ [] → voice_in n ≡ []
none_left n e = voice_zipped _ _ _ ∙ ap (map event_in) e

-- a sign is that of an alteration
pub needed_small : {es fs : List Event} {w : Row} (hs : List ℕ) → Turn es w fs → sign_needed hs w.place w.alteration ≤ alterations
needed_small {es} {fs} {w} hs q =
    pick_both (λ (x : ℕ). x ≤ alterations) (eqb w.place places) 0 (pick (eqb (slice_index hs w.place) w.alteration) 0 (suc w.alteration)) (λ _. omega arith)
    (λ e. pick_both (λ (x : ℕ). x ≤ alterations) (eqb (slice_index hs w.place) w.alteration) 0 (suc w.alteration) (λ _. omega arith) (λ _. omega (arith, q.words.alters (omega (arith, q.words.place, eqb-false w.place places e)))))

-- the sign that is needed comes first; hs' is what holds behind the event, and t the tick of the bar
sign_turn : {es fs : List Event} {w : Row} (k b o t : ℕ) (hs hs' : List ℕ) → Turn es w fs → length hs ≡ places → t ≡ (o + w.length) % b →
    held_in k hs' ≡ pick (leb b (o + w.length)) (key k) (held_in k (then_holding hs w.place w.alteration)) →
    signs k b 0 o (held_in k hs) es ≡ sign_needed hs w.place w.alteration ∷ signs k b 0 t (held_in k hs') fs
unfolding onsets
sign_turn {es} {fs} {w} k b o t hs hs' q len e h =
    ap (signs k b 0 o st) q.event
    ∙ ap₂ (λ (s : ℕ) (g : ℕ → ℕ). s ∷ signs k b (0 + (o + lasts (event_in w)) / b) ((o + lasts (event_in w)) % b) (pick (leb b (o + lasts (event_in w))) (key k) g) fs)
    (sign_words st w.place w.alteration w.length) (held_words st w.place w.alteration w.length)
    ∙ ap (λ (x : ℕ). pick (eqb w.place 70) 0 (sign_of st w.place w.alteration) ∷ signs k b (0 + (o + x) / b) ((o + x) % b) (pick (leb b (o + x)) (key k) (pick (eqb w.place 70) st (now st w.place w.alteration))) fs)
    (lasts_words w.place w.alteration w.length)
    ∙ ap₂ (λ (s : ℕ) (ss : List ℕ). s ∷ ss) (sym (needed_is k hs w.place w.alteration q.words.place))
    (signs_alike k b (0 + (o + w.length) / b) 0 ((o + w.length) % b) _ (held_in k hs') fs
    (ap (pick (leb b (o + w.length)) (key k)) (sym (holding_is k hs w.place w.alteration q.words.place len)) ∙ sym h)
    ∙ ap (λ (x : ℕ). signs k b 0 x (held_in k hs') fs) (sym e))
  where
    st : ℕ → ℕ
    st = held_in k hs

-- an event that ends within its bar, and one behind which the key holds again
pub within_turn : {es fs : List Event} {w : Row} (k b o t : ℕ) (hs hs' : List ℕ) → Turn es w fs → length hs ≡ places → o + w.length < b → t ≡ o + w.length → hs' ≡ then_holding hs w.place w.alteration →
    signs k b 0 o (held_in k hs) es ≡ sign_needed hs w.place w.alteration ∷ signs k b 0 t (held_in k hs') fs
within_turn {es} {fs} {w} k b o t hs hs' q len l e f = sign_turn k b o t hs hs' q len (e ∙ sym (mod-eq_of_lt l)) (ap (held_in k) f ∙ sym (pick_false _ _ _ (lt-leb b (o + w.length) l)))

pub over_turn : {es fs : List Event} {w : Row} (k b o t : ℕ) (hs hs' : List ℕ) → Turn es w fs → length hs ≡ places → b ≤ o + w.length → t ≡ (o + w.length) % b → hs' ≡ key_row k →
    signs k b 0 o (held_in k hs) es ≡ sign_needed hs w.place w.alteration ∷ signs k b 0 t (held_in k hs') fs
over_turn {es} {fs} {w} k b o t hs hs' q len l e f = sign_turn k b o t hs hs' q len e (held_key k hs' f ∙ sym (pick_true _ _ _ (le-leb b (o + w.length) l)))

-- The signs that are written and those of the rows that are left are all: the first `at` words of `out`, whose rest is as it was.
pub record Derived (r : Rows) (y : Layout) (was out : List ℕ) (at tick : ℕ) (hs : List ℕ) (left : Rows) : Type 0 where
  pub front : take at out ++ signs y.key y.bar 0 tick (held_in y.key hs) (voice_in left) ≡ signs_of y.key y.bar (voice_in r)
  pub back : drop at out ≡ drop at was
  pub begun : tick < y.bar
  pub wide : length hs ≡ places
  pub fine : all_fine (voice_in left) ≡ true
  pub many : at + length (zipped left.places.now left.alterations.now left.lengths.now) ≡ length r.lengths.now

pub starts : (r : Rows) (y : Layout) (was : List ℕ) (at : ℕ) (hs : List ℕ) (left : Rows) → Ready r y → at ≡ 0 → left ≡ r → hs ≡ key_row y.key → Derived r y was was at 0 hs left
starts r y was at hs left g e f h =
    subst (λ (n : ℕ). Derived r y was was n 0 hs left) (sym e)
    (subst (Derived r y was was 0 0 hs) (sym f)
    (record {
      front = ap (λ (st : ℕ → ℕ). signs y.key y.bar 0 0 st (voice_in r)) (held_key y.key hs h);
      back = refl;
      begun = g.some;
      wide = ap length h ∙ length_key_row y.key;
      fine = g.fine;
      many = omega (arith, zipped_even r.places.now r.alterations.now r.lengths.now g.same_places g.same_alterations);
    }))

-- one sign more is written
pub write : {r : Rows} {y : Layout} {was out : List ℕ} {at tick : ℕ} {hs : List ℕ} {left : Rows} (rest : Rows) (w : Row) (at' tick' : ℕ) (hs' : List ℕ) (s : ℕ) →
    Derived r y was out at tick hs left → at < length out → zipped left.places.now left.alterations.now left.lengths.now ≡ w ∷ zipped rest.places.now rest.alterations.now rest.lengths.now
    → at' ≡ at + 1 → s ≡ sign_needed hs w.place w.alteration
    → signs y.key y.bar 0 tick (held_in y.key hs) (voice_in left) ≡ sign_needed hs w.place w.alteration ∷ signs y.key y.bar 0 tick' (held_in y.key hs') (voice_in rest)
    → tick' < y.bar → length hs' ≡ places → Derived r y was (set out at s) at' tick' hs' rest
write {r} {y} {was} {out} {at} {tick} {hs} {left} rest w at' tick' hs' s g l e f u v z q =
    subst (λ (n : ℕ). Derived r y was (set out at s) n tick' hs' rest) (sym f)
    (record {
      front = ap (λ (xs : List ℕ). xs ++ signs y.key y.bar 0 tick' (held_in y.key hs') (voice_in rest)) (take_more_set out at s l)
          ∙ append_assoc (take at out) (s ∷ []) (signs y.key y.bar 0 tick' (held_in y.key hs') (voice_in rest))
          ∙ ap (λ (x : ℕ). take at out ++ (x ∷ signs y.key y.bar 0 tick' (held_in y.key hs') (voice_in rest))) u
          ∙ ap (λ (xs : List ℕ). take at out ++ xs) (sym v) ∙ g.front;
      back = drop-set-lt (at + 1) out at s (omega arith) ∙ sym (drop-drop 1 at out) ∙ ap (drop 1) g.back ∙ drop-drop 1 at was;
      begun = z;
      wide = q;
      fine = (next left rest w g.fine e).others;
      many = omega (arith, g.many, ap length e);
    })

-- and at last all of them
pub done : {r : Rows} {y : Layout} {was out : List ℕ} {at tick : ℕ} {hs : List ℕ} {left : Rows} → Derived r y was out at tick hs left
    → zipped left.places.now left.alterations.now left.lengths.now ≡ [] → out ≡ signs_of y.key y.bar (voice_in r) ++ drop (length r.lengths.now) was
unfolding onsets
done {r} {y} {was} {out} {at} {tick} {hs} {left} g e =
    let n : at ≡ length r.lengths.now = omega (arith, g.many, ap length e) in
    let f : take at out ≡ signs_of y.key y.bar (voice_in r) = sym (append-nil (take at out)) ∙ ap (λ (es : List Event). take at out ++ signs y.key y.bar 0 tick (held_in y.key hs) es) (sym (none_left left e)) ∙ g.front in
    sym (take-append-drop at out) ∙ ap₂ (λ (xs ys : List ℕ). xs ++ ys) f g.back ∙ ap (λ (i : ℕ). signs_of y.key y.bar (voice_in r) ++ drop i was) n
