-- Records that are put into the words that a score takes, of all that are lent. Assumes nothing.
use Rattle.std.proofs.Common.{◌≡◌, ℕ, suc, ◌-◌, ◌<◌, Bool, true, false, List, ◌++◌, length, get_or, take, drop, ℤ, pos, Some, None, Option, sym, refl, ap, ◌∙◌, subst, arith}
use borrow.Rule.Slice.PartMut.{post_of, Post-is}
use Rattle.std.proofs.lemmas.List.{get_or_append_left, take_at, take-append-drop, length-take-le, length-append}
use Rattle.score.specs.Music.{pick}
use Rattle.score.specs.Calls.{Answer, Limits}
use Rattle.memory.specs.Store.{words_asked, bytes_asked, voices_in, limit_in, limits_of}
use Rattle.memory.specs.Words.{Holds}
use Rattle.session.specs.Session.{words_taken, bytes_taken}
use Rattle.session.specs.declared.Sizes.{Sizes}
use Rattle.records.specs.Records.{records_of, entered, SoManyPuts}
use Rattle.capi.specs.Signed.{signed, words_fit, taken_by}
use Rattle.capi.specs.Put.{ReadyWords, outcome, RecordsPut}

-- ---- what is taken, if words have a header that fits

abbrev words_more : Option Sizes → ℕ
words_more (Some z) = suc z.words
words_more None = 0

pub fit : (w : List ℕ) (z : Sizes) → Some z ≡ taken_by w → (words_fit w ≡ true) × (z.words ≡ words_taken w)
fit w z e = go (words_fit w) refl (ap words_more e)
  where
    go : (b : Bool) → words_fit w ≡ b → suc z.words ≡ words_more (pick b (Some (record { words = words_taken w; bytes = bytes_taken w })) None) → (words_fit w ≡ true) × (z.words ≡ words_taken w)
    go true h n = (h, omega arith)
    go false h n = absurd (omega arith)

-- ---- other words in place of those that a score takes

-- the first k of a slice, as the code has them, and what is behind them
front : (xs : List ℕ) (n k : ℕ) → n ≡ k → take (n - 0) xs ≡ take k xs
front xs n k e = let z : n - 0 ≡ k = omega arith in ap (λ (j : ℕ). take j xs) z

back : (xs : List ℕ) (n k : ℕ) → n ≡ k → post_of 0 (n - 0) xs ≡ drop k xs
back xs n k e = Post-is 0 n xs (omega arith) ∙ ap (λ (j : ℕ). drop j xs) e

-- what came of numbers ns in the words T that a score takes: the words V, a count and what was said of the next
pub record Came (T ns V : List ℕ) (m : ℕ) (a : Answer) : Type 0 where
  pub count : m ≡ (entered T ns).count
  pub next : a ≡ (entered T ns).next
  pub left : V ≡ (entered T ns).words
  pub puts : SoManyPuts T (records_of ns) V m a
  pub holds : Holds V

module _ (w : List ℕ) (ready : ReadyWords w) where
  abbrev W : List ℕ
  W = take (words_taken w) w

  abbrev R : List ℕ
  R = drop (words_taken w) w

  long : length W ≡ words_taken w
  long = length-take-le (words_taken w) w ready.room

  module _ (V : List ℕ) (size : length V ≡ words_taken w) (same : limits_of V ≡ limits_of W) where
    -- a word of the header is as it was
    header_same : (i : ℕ) → i < 4 → get_or V i 0 ≡ get_or W i 0 → get_or (V ++ R) i 0 ≡ get_or w i 0
    header_same i lt e =
        get_or_append_left V R 0 i (omega (arith, size)) ∙ e ∙ sym (get_or_append_left W R 0 i (omega (arith, long))) ∙ ap (λ (x : List ℕ). get_or x i 0) (take-append-drop (words_taken w) w)

    same_voices : voices_in (V ++ R) ≡ voices_in w
    same_voices = header_same 2 (omega arith) (ap (λ (l : Limits). l.voices) same)

    same_limit : limit_in (V ++ R) ≡ limit_in w
    same_limit = header_same 3 (omega arith) (ap (λ (l : Limits). l.events) same)

    same_taken : words_taken (V ++ R) ≡ words_taken w
    same_taken = ap (λ (v : ℕ). words_asked v (limit_in (V ++ R))) same_voices ∙ ap (words_asked (voices_in w)) same_limit

    ready_now : Holds V → ReadyWords (V ++ R)
    ready_now h = record {
      holds = subst Holds (sym (take_at V R _ (size ∙ sym same_taken))) h;
      room = rw (same_taken, length-append) (omega (arith, size));
    }

  in_front : (ns V : List ℕ) (m : ℕ) (a : Answer) → Came W ns V m a → length V ≡ words_taken w → (next count : ℤ) → next ≡ signed 0 a → count ≡ pos m → RecordsPut w ns (V ++ R) next count
  in_front ns V m a c size next count en ec = record {
    words = ap (λ (x : List ℕ). x ++ R) c.left;
    many = ec ∙ ap pos c.count;
    turned = en ∙ ap (signed 0) c.next;
    puts =
        subst (λ (x : List ℕ). SoManyPuts W (records_of ns) x (outcome w ns).count (outcome w ns).next) (sym (take_at V R _ size))
        (subst (λ (x : ℕ). SoManyPuts W (records_of ns) V x (outcome w ns).next) c.count (subst (λ (x : Answer). SoManyPuts W (records_of ns) V m x) c.next c.puts));
    ready = ready_now V size c.puts.limits c.holds;
    same_bytes = ap bytes_asked (same_limit V size c.puts.limits);
  }

  pub put_in :
      (n : ℕ) → n ≡ words_taken w → (ns V : List ℕ) (m : ℕ) (a : Answer) → Came (take (n - 0) w) ns V m a → length V ≡ length (take (n - 0) w)
      → (next count : ℤ) → next ≡ signed 0 a → count ≡ pos m → RecordsPut w ns (V ++ post_of 0 (n - 0) w) next count
  put_in n e ns V m a c l next count en ec =
      subst (λ (x : List ℕ). RecordsPut w ns (V ++ x) next count) (sym (back w n _ e))
      (in_front ns V m a (subst (λ (x : List ℕ). Came x ns V m a) (front w n _ e) c) (l ∙ ap length (front w n _ e) ∙ long) next count en ec)
