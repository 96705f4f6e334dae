-- Who reads what is printed hears what the voice means. Assumes nothing.
use Rattle.std.proofs.Common.{◌≡◌, ℕ, suc, ◌+◌, ◌%◌, ◌<◌, Bool, true, ◌&&◌, eqb, List, [], ◌∷◌, ◌++◌, sym, refl, ap, ◌∙◌, subst, ap₂, add-zero, add_assoc, arith}
use mathlib.Core.Path.{fun_ext}
use Rattle.std.proofs.lemmas.Bool.{eqb-true, and_parts}
use Rattle.score.specs.Music.{pick, Event, note, silence, lasts, tone, Heard, heard, all_fine}
use Rattle.score.specs.Print.{Symbol, key, Chunk, value, line, chunks, has_line, has_value, heads, rests, now, print, Held, nothing, held, let_go, goes_on, longer, altered, then_holds, reads}
use Rattle.score.specs.Promise.{ReadsBack}
use Rattle.score.proofs.Picks.{pick_true, pick_both, pick_same, eqb_same}
use Rattle.laws.specs.Owed.{sign_of, holding}
use Rattle.laws.proofs.Events.{fine_lasts}
use Rattle.laws.specs.Laying.{span}
use Rattle.laws.proofs.Laid.{span_chunks, Begun, chunks_begin, next_below, next_three}

abbrev pub sound : ℕ → ℕ → ℕ → Heard
sound s l h = record { start = s; long = l; high = h }

-- what is heard behind a head, by which g is held, and which is tied to the next or not
abbrev pub went : ℕ → List Symbol → ℕ → (ℕ → ℕ) → Held → Bool → List Heard
went k xs t st g tied = pick tied (reads k xs t st g) (let_go g ++ reads k xs t st nothing)

goes_on_held : (p a s l : ℕ) → goes_on (held p a s l) p 0 ≡ true
unfolding goes_on
goes_on_held p a s l = ap (λ (x : Bool). x && true) (eqb_same p)

-- The heads of a note behind the first go on with it, over bar lines, and none of them begins a note.
pub read_on : (k p : ℕ) (cs : List Chunk) (xs : List Symbol) (t : ℕ) (st : ℕ → ℕ) (a s l : ℕ) →
    went k (heads p 0 cs ++ xs) t st (held p a s l) (has_value cs) ≡ sound s (l + span cs) (tone p a) ∷ reads k xs (t + span cs) (holding k cs st) nothing
unfolding heads reads has_value has_line span longer let_go
read_on k p [] xs t st a s l = ap₂ (λ (m n : ℕ). sound s m (tone p a) ∷ reads k xs n st nothing) (sym (add-zero l)) (sym (add-zero t))
read_on k p (line ∷ cs) xs t st a s l =
    read_on k p cs xs t (key k) a s l ∙ ap (λ (f : ℕ → ℕ). sound s (l + span cs) (tone p a) ∷ reads k xs (t + span cs) f nothing) (pick_same (has_line cs) (key k))
read_on k p (value v ∷ cs) xs t st a s l =
    pick_true (goes_on (held p a s l) p 0) _ _ (goes_on_held p a s l)
    ∙ read_on k p cs xs (t + v) st a s (l + v)
    ∙ ap₂ (λ (m n : ℕ). sound s m (tone p a) ∷ reads k xs n (holding k cs st) nothing) (add_assoc l v (span cs)) (add_assoc t v (span cs))

-- a note, read from its first head on
pub read_note : (k p sign v : ℕ) (cs : List Chunk) (xs : List Symbol) (t : ℕ) (st : ℕ → ℕ) →
    reads k (heads p sign (value v ∷ cs) ++ xs) t st nothing
    ≡ sound t (v + span cs) (tone p (altered st p sign)) ∷ reads k xs (t + (v + span cs)) (holding k cs (then_holds st p sign)) nothing
unfolding heads reads let_go goes_on
read_note k p sign v cs xs t st =
    read_on k p cs xs (t + v) (then_holds st p sign) (altered st p sign) t v
    ∙ ap (λ (n : ℕ). sound t (v + span cs) (tone p (altered st p sign)) ∷ reads k xs n (holding k cs (then_holds st p sign)) nothing) (add_assoc t v (span cs))

-- a silence
pub read_rest : (k : ℕ) (cs : List Chunk) (xs : List Symbol) (t : ℕ) (st : ℕ → ℕ) →
    reads k (rests cs ++ xs) t st nothing ≡ reads k xs (t + span cs) (holding k cs st) nothing
unfolding rests reads has_line span let_go
read_rest k [] xs t st = ap (λ (n : ℕ). reads k xs n st nothing) (sym (add-zero t))
read_rest k (line ∷ cs) xs t st = read_rest k cs xs t (key k) ∙ ap (λ (f : ℕ → ℕ). reads k xs (t + span cs) f nothing) (pick_same (has_line cs) (key k))
read_rest k (value v ∷ cs) xs t st = read_rest k cs xs (t + v) st ∙ ap (λ (n : ℕ). reads k xs n (holding k cs st) nothing) (add_assoc t v (span cs))

-- the sign that is printed, read: the alteration that is meant, and what holds from there on
sign_alters : (st : ℕ → ℕ) (p a : ℕ) → altered st p (sign_of st p a) ≡ a
unfolding altered
sign_alters st p a = pick_both (λ (x : ℕ). altered st p x ≡ a) (eqb (st p) a) 0 (suc a) (λ e. eqb-true _ _ e) (λ _. refl)

sign_holds : (st : ℕ → ℕ) (p a : ℕ) → then_holds st p (sign_of st p a) ≡ now st p a
unfolding then_holds
sign_holds st p a =
    fun_ext (λ q. pick_both (λ (x : ℕ). then_holds st p x q ≡ now st p a q) (eqb (st p) a) 0 (suc a)
    (λ e. pick_both (λ (x : ℕ). st q ≡ x) (eqb q p) a (st q) (λ f. ap st (eqb-true q p f) ∙ eqb-true (st p) a e) (λ _. refl))
    (λ _. refl))

-- so a note that is printed is heard as it is meant
pub read_begun : (k p a d : ℕ) (cs : List Chunk) (xs : List Symbol) (t : ℕ) (st : ℕ → ℕ) → Begun cs → span cs ≡ d →
    reads k (heads p (sign_of st p a) cs ++ xs) t st nothing ≡ sound t d (tone p a) ∷ reads k xs (t + d) (holding k cs (now st p a)) nothing
unfolding has_line span
read_begun k p a d cs xs t st b e =
    subst (λ (c : List Chunk). span c ≡ d → reads k (heads p (sign_of st p a) c ++ xs) t st nothing ≡ sound t d (tone p a) ∷ reads k xs (t + d) (holding k c (now st p a)) nothing)
    (sym b.2) (at b.0 b.1) e
  where
    at : (v : ℕ) (r : List Chunk) → v + span r ≡ d →
        reads k (heads p (sign_of st p a) (value v ∷ r) ++ xs) t st nothing ≡ sound t d (tone p a) ∷ reads k xs (t + d) (holding k r (now st p a)) nothing
    at v r f =
        read_note k p (sign_of st p a) v r xs t st
        ∙ ap₂ (λ (x : ℕ) (g : ℕ → ℕ). sound t (v + span r) (tone p x) ∷ reads k xs (t + (v + span r)) (holding k r g) nothing) (sign_alters st p a) (sign_holds st p a)
        ∙ ap (λ (x : ℕ). sound t x (tone p a) ∷ reads k xs (t + x) (holding k r (now st p a)) nothing) f

pub read_all : (k b o : ℕ) (st : ℕ → ℕ) (t : ℕ) (es : List Event) → o < b → b % 3 ≡ 0 → o % 3 ≡ 0 → all_fine es ≡ true →
    reads k (print k b o st es) t st nothing ≡ heard es t
unfolding print heard all_fine reads let_go lasts
read_all k b o st t [] h b3 o3 f = refl
read_all k b o st t (note p a d ∷ es) h b3 o3 f =
    read_begun k p a d (chunks (suc d) b o d) (print k b ((o + d) % b) (holding k (chunks (suc d) b o d) (now st p a)) es) t st
    (chunks_begin d b o d g.0 h b3 o3 g.1) (span_chunks (suc d) b o d (omega arith) h b3 o3 g.1)
    ∙ ap (λ (r : List Heard). sound t d (tone p a) ∷ r)
    (read_all k b ((o + d) % b) (holding k (chunks (suc d) b o d) (now st p a)) (t + d) es (next_below b (o + d) (omega arith)) b3 (next_three b (o + d) b3 (omega (arith, g.1))) (and_parts _ _ f).1)
  where
    g : (0 < d) × (d % 3 ≡ 0)
    g = fine_lasts (note p a d) (and_parts _ _ f).0
read_all k b o st t (silence d ∷ es) h b3 o3 f =
    read_rest k (chunks (suc d) b o d) (print k b ((o + d) % b) (holding k (chunks (suc d) b o d) st) es) t st
    ∙ ap (λ (n : ℕ). reads k (print k b ((o + d) % b) (holding k (chunks (suc d) b o d) st) es) (t + n) (holding k (chunks (suc d) b o d) st) nothing)
    (span_chunks (suc d) b o d (omega arith) h b3 o3 g.1)
    ∙ read_all k b ((o + d) % b) (holding k (chunks (suc d) b o d) st) (t + d) es (next_below b (o + d) (omega arith)) b3 (next_three b (o + d) b3 (omega (arith, g.1))) (and_parts _ _ f).1
  where
    g : (0 < d) × (d % 3 ≡ 0)
    g = fine_lasts (silence d) (and_parts _ _ f).0

pub reads_back : ReadsBack
reads_back k b es h b3 f = read_all k b 0 (key k) 0 es h b3 refl f
