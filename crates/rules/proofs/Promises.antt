-- What a recoder's promise gives, over any form whose widths are lawful: stated once, for every form. Assumes nothing.
use mathlib.Core.Path.{◌≡◌, refl, sym, ◌∙◌, ap, subst}
use mathlib.Core.Bool.{not}
use mathlib.Core.Logic.{◌≢◌, ◌↔◌}
use mathlib.Core.List.{List}
use Prim.Native.Nat.{ℕ, ◌≤◌, ◌<◌}
use native.Mathlib.Omega.{arith}
use lib.Dec.{T, T_not, not_T}
use lib.ListN.{length, replicate, length-replicate}
use lib.IntN.{ℤ, pos}
use Rattle.rules.specs.declared.Refusal.TheVariants.{WrongLength, WrongForm, WrongWidth, TooWide, BrokenDigit, Crowded, Negative, PastEnd, WrongChoice}
use Rattle.std.specs.Prelude.{Ok, Err}
use Rattle.rules.specs.Integer.{integer, Bytes}
use Rattle.rules.specs.Digits.{weighted}
use Rattle.rules.specs.Forms.{Form}
use Rattle.rules.specs.Keeps.{Passes, Takes}
use Rattle.rules.specs.Verdicts.{Verdict, Done, number, unless}
use Rattle.rules.specs.Test.{verdict}
use Rattle.rules.specs.Refusals.{DueIf, DueAt}
use Rattle.rules.specs.Promises.{due, Recoded, Recodes, Reads}
use Rattle.rules.specs.Exactly.{ExactlyOne, Lawful, Recodable}
use Rattle.rules.proofs.Integer.{integer-determines, Spelled, spelled}
use Rattle.rules.proofs.Verdicts.{done-or-refused}
use Rattle.rules.proofs.Passing.{pos-same, passing, stands}
use Rattle.rules.proofs.Due.{due-exactly, due-width}
use Rattle.rules.proofs.Refusals.{verdict-done}
use Rattle.rules.proofs.Reading.{reads-exactly}

-- ---- what keeps the promise

module _ (F : Form) (bytes : List ℕ) {answer : Verdict} {digits : List ℤ} {counted added : ℕ} where
  -- a string of the integer, with its count and additions
  pub recodes-done : due F bytes ≡ Done → answer ≡ Done → Recoded F (integer bytes) digits → counted ≡ F.counted digits → added ≡ F.added digits → Recodes F bytes answer digits counted added
  recodes-done d e r c a = record { answered = e ∙ sym d; string = λ _. r; counts = λ _. (c, a); zeros = λ no. absurd (no e) }

  -- zeros, with the refusal that is due
  pub recodes-refused : {v : Verdict} → due F bytes ≡ v → number v ≢ 0 → (answer ≡ v) × (digits ≡ replicate F.long (pos 0)) × (counted ≡ 0) × (added ≡ 0) → Recodes F bytes answer digits counted added
  recodes-refused d n r =
      let no : answer ≢ Done = λ e. n (ap number (sym r.0 ∙ e)) in
      record { answered = r.0 ∙ sym d; string = λ e. absurd (no e); counts = λ e. absurd (no e); zeros = λ _. (r.1, r.2, r.3) }

  -- zeros, with the refusal of the width
  pub recodes-width : {v : Verdict} → v ≡ unless F.allowed WrongWidth → number v ≢ 0 → (answer ≡ v) × (digits ≡ replicate F.long (pos 0)) × (counted ≡ 0) × (added ≡ 0) → Recodes F bytes answer digits counted added
  recodes-width e n r = recodes-refused (due-width F bytes e n) n r

  -- done or refused, the digits are as many as the form says
  pub recodes-long : Recodes F bytes answer digits counted added → length digits ≡ F.long
  recodes-long p = done-or-refused answer (λ e. (p.string e).long) (λ no. ap length (p.zeros no).0 ∙ length-replicate F.long (pos 0))

-- ---- the laws

module _ (F : Form) (lawful : T F.allowed → Lawful F) where
  -- passing strings of one sum are one
  pub equal-digits : (ds es : List ℤ) → Passes F ds → Passes F es → (ds ≡ es) ↔ (weighted F.base ds ≡ weighted F.base es)
  equal-digits ds es p q = (
    λ e. ap (weighted F.base) e,
    λ e. let s = stands F ds p in
        let r = s.string in
        (lawful p.allowed).fixes s.value ds es r (record { long = q.long; keeps = q.keeps; sums = sym e ∙ r.sums }),
  )

  -- what passes stands for an integer that the form takes
  pub passes-takes : (ds : List ℤ) (x : ℕ) → Passes F ds → weighted F.base ds ≡ pos x → Takes F x
  passes-takes ds x p e =
      let s = stands F ds p in
      subst (Takes F) (pos-same (sym s.string.sums ∙ e)) (record { inside = s.inside })

  -- condition 3: an integer that the form takes has exactly one passing string
  pub exactly-one : (x : ℕ) → T F.allowed → Takes F x → ExactlyOne F x
  exactly-one x a t =
      let (ds, r) = (lawful a).reaches x t in
      let p = passing F ds x a r t.inside in
      record { string = ds; passes = p; sums = r.sums; only = λ es q e. (equal-digits es ds q p).1 (e ∙ sym r.sums) }

  module _ (bytes : List ℕ) where
    -- one reply to a call, in all four parts
    pub recodes-determined : {a b : Verdict} {ds es : List ℤ} {j k m n : ℕ} → Recodes F bytes a ds j m → Recodes F bytes b es k n → (a ≡ b) × (ds ≡ es) × (j ≡ k) × (m ≡ n)
    recodes-determined {a} {b} {ds} {es} {j} {k} {m} {n} p q = let e : a ≡ b = p.answered ∙ sym q.answered in done-or-refused a (taken e) (zeros e)
      where
        taken : a ≡ b → a ≡ Done → (a ≡ b) × (ds ≡ es) × (j ≡ k) × (m ≡ n)
        taken e d =
            let d' = sym e ∙ d in
            let f = (lawful ((due-exactly F bytes Done).0 (sym p.answered ∙ d)).0).fixes (integer bytes) ds es (p.string d) (q.string d') in
            (e, f, (p.counts d).0 ∙ ap F.counted f ∙ sym (q.counts d').0, (p.counts d).1 ∙ ap F.added f ∙ sym (q.counts d').1)

        zeros : a ≡ b → a ≢ Done → (a ≡ b) × (ds ≡ es) × (j ≡ k) × (m ≡ n)
        zeros e f =
            let z = p.zeros f in
            let z' = q.zeros (λ d. f (e ∙ d)) in
            (e, z.0 ∙ sym z'.0, z.1 ∙ sym z'.1, z.2 ∙ sym z'.2)

    -- what is counted is at most the number of entries
    pub tally-inside : {a : Verdict} {ds : List ℤ} {j m : ℕ} → Recodes F bytes a ds j m → (j ≤ F.long) × (m ≤ F.long)
    tally-inside {a} {ds} {j} {m} p = done-or-refused a taken (λ no. let z = p.zeros no in (omega (arith, z.1), omega (arith, z.2)))
      where
        taken : a ≡ Done → (j ≤ F.long) × (m ≤ F.long)
        taken d =
            let t = (lawful ((due-exactly F bytes Done).0 (sym p.answered ∙ d)).0).tallies ds (p.string d).long in
            let c = p.counts d in
            (omega (arith, c.0, t.0), omega (arith, c.1, t.1))

    module _ (b : Bytes F.bytes bytes) where
      -- the recoder refuses exactly outside: done is due exactly if the width is the form's and the form takes the integer
      pub done-exactly : due F bytes ≡ Done ↔ (T F.allowed × Takes F (integer bytes))
      done-exactly = (
        λ e. let h = (due-exactly F bytes Done).0 e in
            (h.0, record { inside = ((lawful h.0).roomy bytes b).0 h.1 }),
        λ h. (due-exactly F bytes Done).1 (h.0, ((lawful h.0).roomy bytes b).1 h.1.inside),
      )

      -- 01's table by the integer: the width, and then the integer against the range
      pub due-by-integer : (v : Verdict) → due F bytes ≡ v ↔ DueAt F (integer bytes) v
      due-by-integer v = (λ e. to v ((due-exactly F bytes v).0 e), λ h. (due-exactly F bytes v).1 (from v h))
        where
          at_least : {m n : ℕ} → (m < n → ⊥) → n ≤ m
          at_least f = omega (arith, f)

          outside : T F.allowed → T (not (F.room bytes)) ↔ (F.end ≤ integer bytes)
          outside a = let r = (lawful a).roomy bytes b in (λ t. at_least (λ l. T_not (F.room bytes) t (r.1 l)), λ l. not_T (F.room bytes) (λ t. let h = r.0 t in omega arith))

          to : (v : Verdict) → DueIf F bytes v → DueAt F (integer bytes) v
          to (Ok done) h = (h.0, ((lawful h.0).roomy bytes b).0 h.1)
          to (Err WrongLength) h = h
          to (Err WrongForm) h = h
          to (Err WrongWidth) h = h
          to (Err TooWide) h = (h.0, (outside h.0).0 h.1)
          to (Err (BrokenDigit k)) h = h
          to (Err (Crowded k)) h = h
          to (Err Negative) h = h
          to (Err PastEnd) h = h
          to (Err WrongChoice) h = h

          from : (v : Verdict) → DueAt F (integer bytes) v → DueIf F bytes v
          from (Ok done) h = (h.0, ((lawful h.0).roomy bytes b).1 h.1)
          from (Err WrongLength) h = h
          from (Err WrongForm) h = h
          from (Err WrongWidth) h = h
          from (Err TooWide) h = (h.0, (outside h.0).1 h.1)
          from (Err (BrokenDigit k)) h = h
          from (Err (Crowded k)) h = h
          from (Err Negative) h = h
          from (Err PastEnd) h = h
          from (Err WrongChoice) h = h

      -- the promise can be kept
      pub some-reply : (ds : List ℤ) × (j : ℕ) × (m : ℕ) × Recodes F bytes (due F bytes) ds j m
      some-reply = done-or-refused (due F bytes) taken (λ no. (replicate F.long (pos 0), 0, 0, record { answered = refl; string = λ e. absurd (no e); counts = λ e. absurd (no e); zeros = λ _. (refl, refl, refl) }))
        where
          taken : due F bytes ≡ Done → (ds : List ℤ) × (j : ℕ) × (m : ℕ) × Recodes F bytes (due F bytes) ds j m
          taken d =
              let h = done-exactly.0 d in
              let (ds, r) = (lawful h.0).reaches (integer bytes) h.1 in
              (ds, F.counted ds, F.added ds, recodes-done F bytes d d r refl refl)

      module _ {answer : Verdict} {digits : List ℤ} {counted added : ℕ} (p : Recodes F bytes answer digits counted added) where
        pub answered-exactly : answer ≡ Done ↔ (T F.allowed × Takes F (integer bytes))
        answered-exactly = (λ e. done-exactly.0 (sym p.answered ∙ e), λ h. p.answered ∙ done-exactly.1 h)

        module _ (d : answer ≡ Done) where
          -- a recoder's digits pass
          pub recoded-passes : Passes F digits
          recoded-passes = let h = answered-exactly.0 d in passing F digits (integer bytes) h.0 (p.string d) h.1.inside

          pub test-passes : verdict F digits ≡ Done
          test-passes = (verdict-done F digits).1 recoded-passes

          -- and are the only passing string with that sum
          pub is-the-string : (es : List ℤ) → Passes F es → weighted F.base es ≡ pos (integer bytes) → es ≡ digits
          is-the-string es q e = (equal-digits es digits q recoded-passes).1 (e ∙ sym (p.string d).sums)

          -- read back they give the bytes that they came from
          pub round_trip : {answer' : Verdict} {bytes' : List ℕ} → Bytes F.bytes bytes' → Reads F digits answer' bytes' → (answer' ≡ Done) × (bytes' ≡ bytes)
          round_trip b' r = let d' = (reads-exactly F digits r).1 recoded-passes in (d', integer-determines b' b (pos-same (sym (r.sums d') ∙ (p.string d).sums)))

  -- bytes read from a string give that string when they are recoded
  pub read_back : {ds es : List ℤ} {bytes : List ℕ} {answer : Verdict} {j m : ℕ} → Bytes F.bytes bytes → Reads F ds Done bytes → Recodes F bytes answer es j m → (answer ≡ Done) × (es ≡ ds)
  read_back {ds} {es} {bytes} b r p =
      let q = (reads-exactly F ds r).0 refl in
      let d = (answered-exactly bytes b p).1 (q.allowed, passes-takes ds (integer bytes) q (r.sums refl)) in
      (d, sym (is-the-string bytes b p d ds q (r.sums refl)))

  -- two scalars' strings are equal exactly if the scalars are
  pub equal-scalars : {bs cs : List ℕ} {ds es : List ℤ} {j k m n : ℕ} → Bytes F.bytes bs → Bytes F.bytes cs → Recodes F bs Done ds j m → Recodes F cs Done es k n → (ds ≡ es) ↔ (bs ≡ cs)
  equal-scalars {bs} {cs} {ds} {es} {j} {k} {m} {n} b c p q = (
    λ e. integer-determines b c (pos-same (sym (p.string refl).sums ∙ ap (weighted F.base) e ∙ (q.string refl).sums)),
    λ e. (recodes-determined cs (subst (λ (bytes : List ℕ). Recodes F bytes Done ds j m) e p) q).1,
  )

  -- condition 3 over the integers
  pub recodable : (x : ℕ) → T F.allowed → Takes F x → Recodable F x
  recodable x a t = go (spelled F.bytes x (omega (arith, t.inside, (lawful a).held)))
    where
      go : Spelled F.bytes x → Recodable F x
      go s = record {
        bytes = s.bytes;
        are = s.are;
        spell = s.spell;
        string = λ answer ds j m p. (done p, recoded-passes s.bytes s.are p (done p), (p.string (done p)).sums ∙ ap pos s.spell);
        only = λ answer ds j m p es q e. is-the-string s.bytes s.are p (done p) es q (e ∙ ap pos (sym s.spell));
      }
        where
          done : {answer : Verdict} {ds : List ℤ} {j m : ℕ} → Recodes F s.bytes answer ds j m → answer ≡ Done
          done p = (answered-exactly s.bytes s.are p).1 (a, subst (Takes F) (sym s.spell) t)
