-- What a client has of the promises together, for every form that agrees: one string, the bytes back, one reply, two scalars told apart. Assumes nothing.
use mathlib.Core.Path.{◌≡◌, refl, sym, ◌∙◌, ap, subst}
use mathlib.Core.Logic.{◌≢◌, ◌↔◌, ◌⊎◌, inl, inr, ⊎_elim}
use mathlib.Core.Bool.{Bool, true, false}
use mathlib.Core.List.{List}
use Prim.Native.Nat.{ℕ, zero, suc, ◌<◌, ◌≤◌}
use native.Mathlib.Omega.{arith}
use lib.ListN.{get_or, replicate}
use lib.IntN.{ℤ}
use Rattle.std.specs.Prelude.{Result, Ok, Err}
use Rattle.std.specs.Result.{result_and}
use Rattle.rules.specs.declared.Refusal.{Refusal}
use Rattle.rules.specs.Integer.{Bytes}
use Rattle.rules.specs.Forms.{Form}
use Rattle.rules.specs.Verdicts.{Verdict, Done, verdict_of, number, ◌or_else◌}
use Rattle.rules.specs.Promises.{Recodes, Reads}
use Rattle.rules.proofs.Integer.{integer-determines}
use Rattle.rules.proofs.Passing.{pos-same}
use Rattle.rules.proofs.Verdicts.{number-zero, done-or-refused, passed_on, refused-or_else, or_else-done, err-number, refusal-number}
use Rattle.rules.proofs.Reading.{reads-determined}
use Rattle.rules.proofs.Promises.{exactly-one, recodes-determined, round_trip, equal-scalars}
use Rattle.scalar.specs.declared.Scalar.{Scalar}
use Rattle.scalar.specs.Answers.{bytes_of}
use Rattle.acceptance.specs.Strings.{integer_of}
use Rattle.acceptance.specs.Conditions.{Form01, Answered, Recoding, Reading, EachOne, Back, Compared, same_of}
use Rattle.acceptance.proofs.Sums.{integer-is}
use Rattle.acceptance.proofs.Agreed.{Agrees, not-below, held, one_end}
use Rattle.acceptance.proofs.Recoders.{answered, recodes}
use Rattle.acceptance.proofs.Readers.{reads}

-- std's word for what is tried first
pub and-else : (u v : Verdict) → result_and u v ≡ u or_else v
and-else (Ok tt) v = sym (passed_on Done v refl)
and-else (Err e) v = sym (refused-or_else (Err e) v (refusal-number e))

-- the bytes of a refusal
zero-bytes : Bytes 32 (replicate 32 0)
zero-bytes = record { long = refl; small = λ k. omega (arith, zero-at 32 k) }
  where
    zero-at : (n k : ℕ) → get_or (replicate n 0) k 0 ≡ zero
    zero-at zero k = refl
    zero-at (suc n) zero = refl
    zero-at (suc n) (suc k) = zero-at n k

-- the bytes of an answer: a scalar's, or those of a refusal
pub answer-bytes : (r : Result Scalar Refusal) → ((s : Scalar) → r ≡ Ok s → Bytes 32 s.bytes) → Bytes 32 (bytes_of r)
answer-bytes (Ok s) f = f s refl
answer-bytes (Err e) f = zero-bytes

module _ {F : Form} {C : Form01} (a : Agrees F C) where
  -- condition 3
  pub each-one : EachOne C
  each-one x end r l =
      let h = (a.ends end).0 r in
      let e = h.1 in
      let o = exactly-one F a.lawful x h.0 (record { inside = omega arith }) in
      record {
        string = o.string;
        is = (a.strings o.string).0 o.passes;
        sums = sym (a.sums o.string) ∙ o.sums;
        only = λ es s q. o.only es ((a.strings es).1 s) (a.sums es ∙ q);
      }

  -- ---- recoded, then read

  module _ (bytes : List ℕ) (b : Bytes 32 bytes) {v : Verdict} {digits : List ℤ} {counted added : ℕ} (p : Recodes F bytes v digits counted added) {answer : Verdict} {back : List ℕ} where
    pub back-refused : {e : Refusal} → v ≡ Err e → (answer ≡ Err e) × (back ≡ replicate 32 0) → Back C bytes answer back
    back-refused d r = record {
      answered = subst (Answered C bytes) (d ∙ sym r.0) (answered a bytes b p);
      same = λ z. absurd (err-number r.0 z);
      zeros = λ _. r.1;
    }

    pub back_done : v ≡ Done → Bytes 32 back → Reads F digits answer back → Back C bytes answer back
    back_done d b' r =
        let t = round_trip F a.lawful bytes (held a b) p d (held a b') r in
        record {
          answered = subst (Answered C bytes) (d ∙ sym t.0) (answered a bytes b p);
          same = λ _. t.1;
          zeros = λ f. absurd (f (ap number t.0));
        }

  -- the two promises alone give the bytes back
  pub read_again : {bytes back : List ℕ} {v answer : Verdict} {digits : List ℤ} {counted added : ℕ} → Bytes 32 bytes → Bytes 32 back → Recoding C bytes v digits counted added → number v ≡ 0 → Reading C digits answer back → (number answer ≡ 0) × (back ≡ bytes)
  read_again {bytes} {back} b b' r z s =
      let y = s.tested.done.1 (r.string z) in
      (y, integer-determines b' b (integer-is back ∙ pos-same (sym (s.sums y) ∙ r.sums z) ∙ sym (integer-is bytes)))

  -- one reply keeps a recoder's promise, and one a reader's
  pub one-recoding : {bytes : List ℕ} {u v : Verdict} {ds es : List ℤ} {j k m n : ℕ} → Bytes 32 bytes → Recoding C bytes u ds j m → Recoding C bytes v es k n → (u ≡ v) × (ds ≡ es) × (j ≡ k) × (m ≡ n)
  one-recoding {bytes} b p q = recodes-determined F a.lawful bytes (recodes a bytes b p) (recodes a bytes b q)

  pub one-reading : {ds : List ℤ} {u v : Verdict} {bs cs : List ℕ} → Bytes 32 bs → Bytes 32 cs → Reading C ds u bs → Reading C ds v cs → (u ≡ v) × (bs ≡ cs)
  one-reading {ds} b c p q = reads-determined F ds (held a b) (held a c) (reads a p) (reads a q)

  -- ---- two scalars

  module _ (first second : List ℕ) (b : Bytes 32 first) (c : Bytes 32 second) {u v : Verdict} {ds es : List ℤ} {j k m n : ℕ} (p : Recodes F first u ds j m) (q : Recodes F second v es k n) where
    abbrev Tried : Verdict → Type 0
    Tried answer =
        (number answer ≡ 3 ↔ ((end : ℕ) → C.Ends end → ⊥))
        × (number answer ≡ 4 ↔ ((end : ℕ) × C.Ends end × ((end ≤ integer_of first) ⊎ (end ≤ integer_of second))))
        × (number answer ≡ 0 ↔ ((end : ℕ) × C.Ends end × (integer_of first < end) × (integer_of second < end)))

    tried : Tried (u or_else v)
    tried = done-or-refused u taken refused
      where
        g : Answered C first u
        g = answered a first b p

        h : Answered C second v
        h = answered a second c q

        taken : u ≡ Done → Tried (u or_else v)
        taken e =
            let z : number u ≡ 0 = ap number e in
            let (end, r, l) = g.done.0 z in
            rw (passed_on u v z) (
              h.three,
              (λ y. let (end', r', l') = h.four.0 y in (end', r', inr l'), λ (end', r', s). ⊎_elim (λ l'. absurd (let y = g.four.1 (end', r', l') in omega arith)) (λ l'. h.four.1 (end', r', l')) s),
              (λ y. let (end', r', l') = h.done.0 y in let i = one_end a r r' in (end', r', omega arith, l'), λ (end', r', l', m'). h.done.1 (end', r', m')),
            )

        refused : u ≢ Done → Tried (u or_else v)
        refused f =
            let f' : number u ≢ 0 = λ z. f (number-zero u z) in
            rw (refused-or_else u v f') (
              g.three,
              (λ y. let (end, r, l) = g.four.0 y in (end, r, inl l), λ (end, r, s). g.four.1 (end, r, not-below (integer_of first) end (λ l. f' (g.done.1 (end, r, l))))),
              (λ y. absurd (f' y), λ (end, r, l, l'). g.done.1 (end, r, l)),
            )

    pub compared : {answer : Verdict} {same : Bool} → answer ≡ u or_else v → (number answer ≡ 0 → (same ≡ true) ↔ (ds ≡ es)) → (number answer ≢ 0 → same ≡ false) → Compared C first second answer same
    compared {answer} {same} e f g =
        let t : Tried answer = subst Tried (sym e) tried in
        record { three = t.0; four = t.1; done = t.2; equal = equal; not_done = g }
      where
        equal : number answer ≡ 0 → (same ≡ true) ↔ (first ≡ second)
        equal z =
            let d = or_else-done u v (sym e ∙ number-zero answer z) in
            let i = equal-scalars F a.lawful (held a b) (held a c) (subst (λ (x : Verdict). Recodes F first x ds j m) d.0 p) (subst (λ (x : Verdict). Recodes F second x es k n) d.1 q) in
            (λ x. i.0 ((f z).0 x), λ x. (f z).1 (i.1 x))

    -- .. as an answer, by std's word for what is tried first
    pub compared-refused : {e : Refusal} {r : Result Bool Refusal} → result_and u v ≡ Err e → r ≡ Err e → Compared C first second (verdict_of r) (same_of r)
    compared-refused d h = compared (ap verdict_of h ∙ sym d ∙ and-else u v) (λ z. absurd (err-number (ap verdict_of h) z)) (λ _. ap same_of h)

    pub compared-done : {same : Bool} → result_and u v ≡ Done → (same ≡ true) ↔ (ds ≡ es) → Compared C first second Done same
    compared-done d i = compared (sym d ∙ and-else u v) (λ _. i) (λ f. absurd (f refl))
