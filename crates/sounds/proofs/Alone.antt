-- A voice that is alone: its notes are heard together as they come, one event after the other, and are written so. Assumes nothing.
use Rattle.std.proofs.Common.{◌≡◌, ℕ, suc, ◌+◌, ◌-◌, ◌*◌, ◌<◌, ◌≤◌, true, false, List, ◌∷◌, ◌++◌, ◌==◌, length, get_or, take, drop, sum, sym, refl, ap, ap₂, ◌∙◌, subst, drop-cons, arith}
use borrow.Rule.Slice.PartMut.{put_mid}
use Rattle.std.proofs.lemmas.List.{drop_all, length-take, get_or-take}
use Rattle.std.proofs.lemmas.Bool.{and_parts, lt-ltb}
use Rattle.score.specs.Music.{places, alterations, length_end, Event, Heard, heard, fine, all_fine}
use Rattle.score.specs.Calls.{Score, voice, begins, together}
use Rattle.score.proofs.Picks.{pick_true}
use Rattle.laws.specs.Rows.{voice_of}
use Rattle.memory.proofs.Scores.{fines_voice, fine_parts}
use Rattle.rows.specs.declared.Row.{Row as Words}
use Rattle.rows.specs.Rows.{event_in}
use Rattle.wire.specs.Bytes.{sound_bytes, sounds_bytes}
use Rattle.sounds.specs.Rows.{heard_at}
use Rattle.sounds.specs.Spans.{Row, until, mixed, score_in, Laid, part, Timed, AllTimed, InOrder, AllBefore, Reached}
use Rattle.sounds.proofs.Mixed.{merged_nil, together_mixed}
use Rattle.sounds.proofs.Parts.{voice_drop, voice_dealt, length_dealt, same_long, part_long, until_late}
use Rattle.sounds.proofs.Walks.{ticks_more}
use Rattle.sounds.proofs.Line.{heard_silent, heard_note, note_in}
use Rattle.sounds.proofs.Marked.{in_rows, part_short, heard_behind}
use Rattle.sounds.proofs.Search.{Came, timed_order, came_behind, came_to, reached_tick}
use Rattle.sounds.proofs.Written.{Written, none_written, next_written, all_written}

-- what is left of the voice from its i-th event on, which begins at tick t
abbrev yet : List Event → ℕ → ℕ → ℕ → Row
yet es e i t = until 0 e (heard (drop i es) t)

-- the notes `all` are written up to the i-th event, which begins at tick t
pub record Along (ns ps xs ds : List ℕ) (e : ℕ) (all : Row) (came out : List ℕ) (count i t : ℕ) : Type 0 where
  pub written : Written came 0 all out count (yet (voice (score_in ns ps xs ds) 0) e i t)
  pub time : t ≡ sum (take i (part ns 0 ds))

-- the first event of rows
comes_in : (i : ℕ) (ps xs ds : List ℕ) → i < length ps → length xs ≡ length ps → length ds ≡ length ps
    → voice_of (drop i ps) (drop i xs) (drop i ds) ≡ event_in (record { place = get_or ps i 0; alteration = get_or xs i 0; length = get_or ds i 0 }) ∷ voice_of (drop (suc i) ps) (drop (suc i) xs) (drop (suc i) ds)
unfolding voice_of
comes_in i ps xs ds l x d =
    let p = drop-cons ps i 0 l in
    let a = drop-cons xs i 0 (omega arith) in
    let u = drop-cons ds i 0 (omega arith) in rw (p, a, u) refl

-- a note that begins before tick e is heard
until_next : (e : ℕ) (h : Heard) (hs : List Heard) → h.start < e → until 0 e (h ∷ hs) ≡ (0, h) ∷ until 0 e hs
unfolding until
until_next e h hs l = pick_true _ _ _ (lt-ltb _ _ l)

-- from an event at tick e or later on no more is heard before it
module _ {ns ps xs ds : List ℕ} {e : ℕ} {all : Row} {came out : List ℕ} {n i t : ℕ} (w : Along ns ps xs ds e all came out n i t) where
  abbrev IsAll : Type 0
  IsAll = (out ≡ sounds_bytes all ++ drop (8 * n) came) × (n ≡ length all)

  pub along_late : e ≤ t → IsAll
  along_late l = all_written w.written (until_late 0 e t (drop i (voice (score_in ns ps xs ds) 0)) l)

  -- nor behind the last
  pub along_behind : get_or ns 0 0 ≤ i → IsAll
  unfolding until heard
  along_behind l =
      let few = ap length (voice_dealt ns (voice_of ps xs ds) 0) in
      let none = drop_all i (voice (score_in ns ps xs ds) 0) (omega (arith, few, length-take (get_or ns 0 0) (voice_of ps xs ds))) in
      all_written w.written (ap (λ (es : List Event). until 0 e (heard es t)) none)

module _ {ns ps xs ds : List ℕ} (laid : Laid ns ps xs ds) (alone : length ns ≡ 1) where
  abbrev S : Score
  S = score_in ns ps xs ds

  abbrev Es : List Event
  Es = voice S 0

  abbrev count : ℕ
  count = get_or ns 0 0

  heard_alone : (a e : ℕ) → together S 0 a e ≡ begins 0 a e (heard Es 0)
  unfolding mixed
  heard_alone a e =
      together_mixed S a e ∙ ap (λ (n : ℕ). mixed (λ u. begins u a e (heard (voice S u) 0)) n 0) (length_dealt ns (voice_of ps xs ds) ∙ alone)
      ∙ merged_nil _ (begins 0 a e (heard Es 0))

  long : length (part ns 0 ds) ≡ count
  long = part_long ns 0 ds (omega arith) (omega (arith, laid.fitting, laid.lengths_too))

  rows_left : (k : ℕ) → drop k Es ≡ voice_of (drop k (part ns 0 ps)) (drop k (part ns 0 xs)) (drop k (part ns 0 ds))
  rows_left k = ap (drop k) (in_rows ns ps xs ds laid 0) ∙ voice_drop k (part ns 0 ps) (part ns 0 xs) (part ns 0 ds)

  -- before the first event from tick a on
  pub along_first : {a e m : ℕ} {came : List ℕ} → Came a (part ns 0 ds) m → {t : ℕ} → t ≡ sum (take m (part ns 0 ds)) → Along ns ps xs ds e (together S 0 a e) came came 0 m t
  along_first {a} {e} {m} {came} first {t} time =
      let all : together S 0 a e ≡ yet Es e m t = heard_alone a e ∙ heard_behind ns ps xs ds laid 0 a e m first.index ∙ ap (yet Es e m) (sym time) in
      record { written = subst (λ (xs : Row). Written came 0 xs came 0 (yet Es e m t)) (sym all) (none_written came 0 (yet Es e m t)); time = time }

  -- of the words r of an event
  module _ {e : ℕ} {all : Row} {came out : List ℕ} {n i t : ℕ} (w : Along ns ps xs ds e all came out n i t) (there : i < count) {r : Words}
      (is : r ≡ record { place = get_or ps i 0; alteration = get_or xs i 0; length = get_or ds i 0 }) where
    comes : drop i Es ≡ event_in r ∷ drop (i + 1) Es
    comes =
        let x = same_long ns 0 ps xs laid.alterations_too in
        let d = same_long ns 0 ps ds laid.lengths_too in
        let p = get_or-take count ps i 0 there in
        let q = get_or-take count xs i 0 there in
        let u = get_or-take count ds i 0 there in
        let s : suc i ≡ i + 1 = omega arith in
        let own : record { place = get_or (part ns 0 ps) i 0; alteration = get_or (part ns 0 xs) i 0; length = get_or (part ns 0 ds) i 0 } ≡ r = cc in
        rows_left i ∙ comes_in i (part ns 0 ps) (part ns 0 xs) (part ns 0 ds) (omega (arith, long, d)) x d
        ∙ ap₂ (λ (v : Words) (es : List Event). event_in v ∷ es) own (sym (rows_left (suc i)) ∙ ap (λ (k : ℕ). drop k Es) s)

    on : (hs : List Heard) → heard (event_in r ∷ drop (i + 1) Es) t ≡ hs → Written came 0 all out n (until 0 e hs)
    on hs h = subst (Written came 0 all out n) (ap (λ (es : List Event). until 0 e (heard es t)) comes ∙ ap (until 0 e) h) w.written

    later : t + r.length ≡ sum (take (i + 1) (part ns 0 ds))
    later =
        let more = ticks_more i (part ns 0 ds) (omega (arith, long)) in
        let u = get_or-take count ds i 0 there in
        let l = ap (λ (v : Words). v.length) is in omega (arith, w.time, more.0, u, l)

    -- a silence is passed
    pub along_silence : (r.place == places) ≡ true → Along ns ps xs ds e all came out n (i + 1) (t + r.length)
    along_silence h = record { written = on _ (heard_silent r (drop (i + 1) Es) t h); time = later }

    module _ (h : (r.place == places) ≡ false) where
      pub along_fields : (r.place < places) × (r.alteration < alterations) × (r.length < length_end)
      unfolding all_fine
      along_fields = note_in r (and_parts (fine (event_in r)) _ (sym (ap all_fine comes) ∙ (fine_parts i Es (fines_voice S 0 laid.fines)).1)).0 h

      module _ (early : t < e) where
        next : Written came 0 all out n ((0, heard_at r t) ∷ yet Es e (i + 1) (t + r.length))
        next = subst (Written came 0 all out n) (until_next e (heard_at r t) _ early) (on _ (heard_note r (drop (i + 1) Es) t h))

        -- there is room for a note
        pub along_room : n < length all
        along_room = omega (arith, next.many)

        -- and it is written
        pub along_note :
            {note : ℕ × Heard} {k : ℕ} (last : List ℕ) → 8 * n ≤ length out → note ≡ (0, heard_at r t) → k ≡ 8
            → last ≡ sound_bytes note ++ drop k (take (length out - 8 * n) (drop (8 * n) out))
            → Along ns ps xs ds e all came (put_mid (8 * n) (length out - 8 * n) out last) (n + 1) (i + 1) (t + r.length)
        along_note last l y eight q = record { written = next_written last next l y eight q; time = later }

  -- the first event is found
  module _ {m : ℕ} {bs ts : List ℕ} (timed : AllTimed ns ds m bs ts) where
    first_timed : Timed m (part ns 0 bs) (part ns 0 ts) (part ns 0 ds)
    first_timed = timed.each 0 (omega arith)

    pub alone_order : InOrder m (part ns 0 bs) (part ns 0 ts)
    alone_order = let short = part_short ns ps xs ds laid 0 in timed_order timed.positive (omega arith) first_timed

    -- if there is one
    pub alone_first : {a r t e : ℕ} {came : List ℕ} → Reached a m (part ns 0 bs) (part ns 0 ts) r t → Along ns ps xs ds e (together S 0 a e) came came 0 r t
    alone_first reached = along_first (came_to first_timed reached) (reached_tick first_timed reached)

    -- or none
    pub alone_none : {a : ℕ} (e : ℕ) (came : List ℕ) → AllBefore a m (part ns 0 bs) (part ns 0 ts) (length (part ns 0 bs)) → (came ≡ sounds_bytes (together S 0 a e) ++ came) × (0 ≡ length (together S 0 a e))
    alone_none {a} e came before = along_behind (along_first {e = e} (came_behind first_timed count (sym long) before) refl) (omega arith)
