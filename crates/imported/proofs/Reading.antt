-- A node line that is read has been judged: its support position is there, and its children lie below it and deeper.
use mathlib.Core.Path.{◌≡◌, refl, ◌∙◌}
use mathlib.Core.Bool.{Bool, true, false, cond, ◌&&◌, ◌||◌}
use mathlib.Core.List.{List, [], ◌∷◌}
use Prim.Native.Nat.{ℕ, zero, suc, ◌-◌, ◌/◌, ◌%◌, ◌^◌, ◌≤◌, ◌<◌}
use native.Mathlib.Omega.{arith}
use lib.Dec.{ltb, leb, eqb}
use lib.IntN.{ℤ, pos, nat_abs}
use lib.ListN.{length, get_or, drop}
use borrow.Author.Tests.{ltb-true, leb-false, eqb-false}
use Rattle.codes.specs.Answer.{Read, value, refused, Step, got, fails, then}
use Rattle.codes.specs.Codes.{code_of}
use Rattle.codes.specs.declared.Code.{Code}
use Rattle.codes.specs.declared.Code.TheVariants.{Terminal, AbsoluteID, RelativeID, Relative1}
use Rattle.codes.proofs.Bytes.{both}
use Rattle.edges.proofs.Edge.{abs_neg}
use Rattle.read_binary.specs.Binary.{byte_at}
use Rattle.read_edges.specs.Edges.{Pair, signed, children}
use Rattle.read_lines.specs.Line.{line_of}
use Rattle.read_numbers.specs.Number.{single}
use Rattle.read_text.specs.Alike.{alike}
use Rattle.header_lines.specs.Sweep.{part}
use Rattle.node_lines.specs.Line.{Line, terminal, inner, deeper, child_fault}
use Rattle.line_words.specs.Words.{variable_word}
use Rattle.import_ascii.specs.Text.{described_t, faultless, variable, described, by_word, text_line, line_ends_at, text_line_at}
use Rattle.line_numbers.specs.Numbers.{id_at, below, child_at, variable_at}
use Rattle.import_bin.specs.Bin.{counts_from, position_by, placed_at, resolved, inner_at, by_code, bin_line_at}
use Rattle.imported.specs.Build.{ChildBelow, Judged}
use Rattle.imported.specs.Import.{line_by}
use Rattle.imported.proofs.Modes.{text-line, bin_line}

module _ (levels seats : List ℕ) (n : ℕ) where
  -- what is read is judged
  abbrev Well : Read Line → Type 0
  Well (value l) = Judged levels seats n l
  Well (refused k) = Unit

  abbrev WellStep : Step Line → Type 0
  WellStep (got l next) = Judged levels seats n l
  WellStep (fails k) = Unit

  -- a child with no fault
  child-judged : (l : ℕ) (c : ℤ) → 1 ≤ nat_abs c → child_fault levels seats n l c ≡ 0 → ChildBelow levels seats n l c
  unfolding child_fault
  child-judged l c h = go (leb n (nat_abs c)) (deeper levels seats l (nat_abs c)) refl refl
    where
      go : (a b : Bool) → leb n (nat_abs c) ≡ a → deeper levels seats l (nat_abs c) ≡ b → ◌≡◌ {A = ℕ} (cond a 35 (cond b 0 36)) 0 → ChildBelow levels seats n l c
      go true b p q z = absurd (omega arith)
      go false true p q z = record { some = h; below = leb-false n (nat_abs c) p; deep = q }
      go false false p q z = absurd (omega arith)

  -- text: a line whose children have no faults
  faultless-well : (a b : ℕ) (l : Line) → (a ≡ 0 → b ≡ 0 → Judged levels seats n l) → Well (faultless a b l)
  faultless-well zero zero l j = j refl refl
  faultless-well zero (suc b) l j = tt
  faultless-well (suc a) b l j = tt

  -- a line with its children read, by its variable word
  variable-well : (t e : ℤ) → 1 ≤ nat_abs t → 1 ≤ nat_abs e → (r : Read ℕ) → Well (variable levels seats n t e r)
  variable-well t e h k (refused m) = tt
  variable-well t e h k (value p) = go (ltb p (length levels)) refl
    where
      go : (b : Bool) → ltb p (length levels) ≡ b
          → Well (cond b (faultless (child_fault levels seats n (get_or levels p 0) t) (child_fault levels seats n (get_or levels p 0) e) (inner p t e)) (refused 34))
      go true q = faultless-well _ _ (inner p t e)
          (λ x y. record {
            position = ltb-true p (length levels) q;
            then = child-judged (get_or levels p 0) t h x;
            els = child-judged (get_or levels p 0) e k y;
          })
      go false q = tt

  -- a terminal line, by its word
  terminal-well : (b : Bool) → Well (cond b (value terminal) (refused 33))
  terminal-well true = tt
  terminal-well false = tt

  -- a line by its child list
  described-well : (word : List ℕ) (r : Read Pair) → Well (described levels seats n word r)
  described-well word (refused k) = tt
  described-well word (value c) = counted (eqb c.count 2)
    where
      some : (z : ℤ) → eqb (nat_abs z) 0 ≡ false → 1 ≤ nat_abs z
      some z q = let d = eqb-false (nat_abs z) 0 q in omega arith

      go : (a b : Bool) → eqb (nat_abs c.first) 0 ≡ a → eqb (nat_abs c.second) 0 ≡ b
          → Well (cond (a || b) (described_t word) (variable levels seats n c.first c.second (single (2 ^ 32) word)))
      go true b p q = terminal-well (alike word (0x54 ∷ []))
      go false true p q = terminal-well (alike word (0x54 ∷ []))
      go false false p q = variable-well c.first c.second (some c.first p) (some c.second q) (single (2 ^ 32) word)

      counted : (b : Bool)
          → Well (cond b
          (cond (eqb (nat_abs c.first) 0 || eqb (nat_abs c.second) 0)
          (described_t word) (variable levels seats n c.first c.second (single (2 ^ 32) word)))
          (refused 32))
      counted true = go (eqb (nat_abs c.first) 0) (eqb (nat_abs c.second) 0) refl refl
      counted false = tt

  -- a line by where its variable word stands
  word-well : (s : List ℕ) (w : Step ℕ) → Well (by_word levels seats n s w)
  word-well s (fails k) = tt
  word-well s (got start end) = described-well (part s start end) (children (drop end s))

  -- a line with the position after it
  end-well : (next : ℕ) (r : Read Line) → Well r → WellStep (line_ends_at next r)
  end-well next (value l) j = j
  end-well next (refused k) j = tt

  -- a line of text, or its refusal
  text-well : (extra : Bool) (f : List ℕ) (at : ℕ) → WellStep (text_line_at extra levels seats n f at)
  unfolding text_line_at text_line
  text-well extra f at = go (ltb at (length f))
    where
      s : List ℕ
      s = part f at (line_of f at).end

      go : (b : Bool) → WellStep (cond b (line_ends_at (line_of f at).next (by_word levels seats n s (variable_word extra n s))) (fails 30))
      go true = end-well (line_of f at).next (by_word levels seats n s (variable_word extra n s)) (word-well s (variable_word extra n s))
      go false = tt

  -- binary: one step after another
  then-well : {A : Type 0} (s : Step A) (k : A → ℕ → Step Line) → ((a : A) (at : ℕ) → s ≡ got a at → WellStep (k a at)) → WellStep (then s k)
  then-well (got a at) k h = h a at refl
  then-well (fails m) k h = tt

  -- a number of a line before line n
  abbrev Low : ℕ → Type 0
  Low v = (1 ≤ v) × (v < n)

  abbrev LowStep : Step ℕ → Type 0
  LowStep (got v next) = Low v
  LowStep (fails k) = Unit

  -- a child by its number
  below-low : (id next : ℕ) → LowStep (below n id next)
  below-low id next = go (eqb id 0) (leb n id) refl refl
    where
      go : (a b : Bool) → eqb id 0 ≡ a → leb n id ≡ b → LowStep (cond (a || b) (fails 35) (got id next))
      go true b p q = tt
      go false true p q = tt
      go false false p q = let d = eqb-false id 0 p in (omega arith, leb-false n id q)

  -- a child after its number is read
  then_low : (s : Step ℕ) (k : ℕ → ℕ → Step ℕ) → ((v next : ℕ) → LowStep (k v next)) → LowStep (then s k)
  then_low (got v next) k h = h v next
  then_low (fails m) k h = tt

  -- a child by its code
  child-low : (code : Code) (f : List ℕ) (at : ℕ) → LowStep (child_at code n f at)
  unfolding child_at
  child-low code f at = then_low (id_at code n f at) (below n) below-low

  -- a child that was read
  got-low : (code : Code) (f : List ℕ) (at : ℕ) {v next : ℕ} → child_at code n f at ≡ got v next → Low v
  got-low code f at q = rw q at (child-low code f at)

  -- a magnitude with its sign
  abs-signed : (b : Bool) (v : ℕ) → nat_abs (signed b v) ≡ v
  abs-signed true v = abs_neg (pos v)
  abs-signed false v = refl

  -- a child below line n that lies deeper
  signed-child : (b : Bool) (l v : ℕ) → Low v → deeper levels seats l v ≡ true → ChildBelow levels seats n l (signed b v)
  signed-child b l v h d = record { some = rw (abs-signed b v) h.0; below = rw (abs-signed b v) h.1; deep = rw (abs-signed b v) d }

  -- a line with both children read
  placed-well : (b : Bool) (t e next p : ℕ) → Low t → Low e → WellStep (placed_at levels seats t e (signed b e) next p)
  placed-well b t e next p h k = go (ltb p (length levels)) refl
    where
      l : ℕ
      l = get_or levels p 0

      deep : (x : Bool) → (deeper levels seats l t && deeper levels seats l e) ≡ x → ltb p (length levels) ≡ true
          → WellStep (cond x (got (inner p (pos t) (signed b e)) next) (fails 36))
      deep true q r =
          let d = both (deeper levels seats l t) (deeper levels seats l e) q in
          record { position = ltb-true p (length levels) r; then = signed-child false l t h d.0; els = signed-child b l e k d.1 }
      deep false q r = tt

      go : (x : Bool) → ltb p (length levels) ≡ x
          → WellStep (cond x (cond (deeper levels seats l t && deeper levels seats l e) (got (inner p (pos t) (signed b e)) next) (fails 36)) (fails 34))
      go true r = deep (deeper levels seats l t && deeper levels seats l e) refl r
      go false r = tt

  -- a line with its position by its code
  resolved-well : (count : ℕ) (code : Code) (v : ℕ) (b : Bool) (t e next : ℕ) → Low t → Low e
      → WellStep (resolved count levels seats code v b t e next)
  resolved-well count code v b t e next h k =
      then-well (position_by code (counts_from count (get_or seats (t - 1) 0) (get_or seats (e - 1) 0)) v)
      (λ p _. placed_at levels seats t e (signed b e) next p) (λ p x q. placed-well b t e next p h k)

  -- a line with its variable read
  inner-well : (count : ℕ) (f : List ℕ) (b : ℕ) (code : Code) (at : ℕ) → WellStep (inner_at count levels seats n f b code at)
  inner-well count f b code at =
      then-well (variable_at code f at)
      (λ v at₁. then (child_at (code_of (b / 8)) n f at₁)
      (λ t at₂. then (child_at (code_of b) n f at₂)
      (λ e next. resolved count levels seats code v (eqb ((b / 4) % 2) 1) t e next)))
      (λ v at₁ _. then-well (child_at (code_of (b / 8)) n f at₁)
      (λ t at₂. then (child_at (code_of b) n f at₂) (λ e next. resolved count levels seats code v (eqb ((b / 4) % 2) 1) t e next))
      (λ t at₂ h. then-well (child_at (code_of b) n f at₂)
      (λ e next. resolved count levels seats code v (eqb ((b / 4) % 2) 1) t e next)
      (λ e next k. resolved-well count code v (eqb ((b / 4) % 2) 1) t e next (got-low (code_of (b / 8)) f at₁ h) (got-low (code_of b) f at₂ k))))

  -- a line by its variable code
  code-well : (count : ℕ) (f : List ℕ) (b : ℕ) (code : Code) (at : ℕ) → WellStep (by_code count levels seats n f b code at)
  code-well count f b Terminal at = tt
  code-well count f b AbsoluteID at = inner-well count f b AbsoluteID at
  code-well count f b RelativeID at = inner-well count f b RelativeID at
  code-well count f b Relative1 at = inner-well count f b Relative1 at

  -- a line in binary, or its refusal
  bin-well : (count : ℕ) (f : List ℕ) (at : ℕ) → WellStep (bin_line_at count levels seats n f at)
  unfolding bin_line_at
  bin-well count f at =
      then-well (byte_at f at) (λ b next. by_code count levels seats n f b (code_of (b / 32)) next) (λ b next q. code-well count f b (code_of (b / 32)) next)

  -- a line of text that is read
  pub text-judged : (extra : Bool) (f : List ℕ) (at : ℕ) {l : Line} {next : ℕ}
      → text_line_at extra levels seats n f at ≡ got l next → Judged levels seats n l
  text-judged extra f at q = rw q at (text-well extra f at)

  -- a line in binary that is read
  pub bin-judged : (count : ℕ) (f : List ℕ) (at : ℕ) {l : Line} {next : ℕ}
      → bin_line_at count levels seats n f at ≡ got l next → Judged levels seats n l
  bin-judged count f at q = rw q at (bin-well count f at)

-- a line of either mode that is read
pub line-judged : (ascii extra : Bool) (list : List ℕ) (levels : ℕ) (f seats : List ℕ) (n at : ℕ) {l : Line} {next : ℕ}
    → line_by ascii extra list levels f seats n at ≡ got l next → Judged list seats n l
line-judged ascii extra list levels f seats n at {l} {next} q = go ascii refl
  where
    go : (b : Bool) → ascii ≡ b → Judged list seats n l
    go true p = text-judged list seats n extra f at (text-line ascii extra list levels f seats n at p ∙ q)
    go false p = bin-judged list seats n levels f at (bin_line ascii extra list levels f seats n at p ∙ q)
