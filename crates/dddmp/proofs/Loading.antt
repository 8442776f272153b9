-- What the functions of the stages promise, put together over plain variables: the promise of `load`.
use mathlib.Core.Path.{◌≡◌, refl, sym, ap, subst, ◌∙◌}
use mathlib.Core.List.{List, [], ◌∷◌}
use Prim.Native.Nat.{ℕ, zero, suc}
use lib.ListN.{length, replicate}
use lib.IntN.{ℤ, pos}
use Rattle.codes.specs.Limits.{limits}
use Rattle.codes.specs.Lent.{laid}
use Rattle.header_values.specs.Values.{pad}
use Rattle.codes.specs.Faults.{first_fault}
use Rattle.codes.proofs.Faults.{first-none}
use Rattle.store.specs.Store.{Store}
use Rattle.header.specs.Header as head
use Rattle.header.specs.Header.{HeaderAnswer}
use Rattle.header.proofs.Lengths.{before-none}
use Rattle.calls.specs.Load.{lent_fault, store_fault, input_fault, before_header, header_of, Parts, parts, lengths_of, load_into, Load, load_of}
use Rattle.stages.specs.Stages.{store_after, scratched, listed, Readable, nodes_after, is_refusal, cleared_if}
use Rattle.dddmp.proofs.Readable.{readable}
use Rattle.dddmp.proofs.Staged.{ready, nodes_left, left-load, Entries, load_entries, head_entries, no_entries, cleared-list}

-- the first of two refusals, and then a third
three-first : (a b c : ℕ) → first_fault (first_fault (a ∷ b ∷ []) ∷ c ∷ []) ≡ first_fault (a ∷ b ∷ c ∷ [])
unfolding first_fault
three-first zero zero c = refl
three-first zero (suc b) c = refl
three-first (suc a) b c = refl

-- parts that are equal list by list
pub parts-alike : {a a' b b' c c' d d' e e' f f' : List ℕ} {g g' : List ℤ} {h h' i i' : List ℕ} {j j' : List ℤ} {k k' : List ℕ}
    → a ≡ a' → b ≡ b' → c ≡ c' → d ≡ d' → e ≡ e' → f ≡ f' → g ≡ g' → h ≡ h' → i ≡ i' → j ≡ j' → k ≡ k'
    → parts a b c d e f g h i j k ≡ parts a' b' c' d' e' f' g' h' i' j' k'
parts-alike p q r s t u v w x y z = rw (p, q, r, s, t, u, v, w, x, y, z) refl

-- where nothing is found before the header, nothing was found of the lists
pub lists-none : (σ : Store) (n : ℕ) {l lists found before : ℕ} → lists ≡ l → found ≡ store_after lists σ → before ≡ head.length_after limits found n
    → before ≡ 0 → l ≡ 0
unfolding store_after
lists-none σ n {l} {lists} {found} p s e z = sym p ∙ first-none lists _ (sym s ∙ before-none found n (sym e ∙ z))

module _ (file list : List ℕ) (p : Parts) (σ : Store) where
  abbrev this : Load
  this = load_into file list p

  -- what is found before the header: the lists, then the store, then the input's length
  pub before-is : (lists found before : ℕ) → lists ≡ lent_fault (lengths_of p) → found ≡ store_after lists σ
      → before ≡ head.length_after limits found (length file) → before ≡ before_header limits this σ
  unfolding before_header store_after head.length_after
  before-is lists found before l s e =
      e ∙ ap (λ n. first_fault (n ∷ input_fault limits file ∷ [])) (s ∙ ap (λ n. first_fault (n ∷ store_fault limits σ ∷ [])) l)
      ∙ three-first (lent_fault (lengths_of p)) (store_fault limits σ) (input_fault limits file)

  module _ (before : ℕ) (s : before ≡ before_header limits this σ) where
    head-after : head.load_header limits before file ≡ header_of limits this σ
    unfolding header_of
    head-after = ap (λ n. head.load_header limits n file) s

    -- the answers after the header, after scratch, and after the level list
    module _ (a m b : HeaderAnswer) (q : a ≡ (head.load_header limits before file).answer) (t : m ≡ scratched (length p.edges) (length p.seats) a)
        (r : b ≡ listed σ.levels list m) where
      head-answer : a ≡ (header_of limits this σ).answer
      head-answer = q ∙ ap (λ x. x.answer) head-after

      ready-is : ready this σ (header_of limits this σ).answer ≡ b
      ready-is = ap (ready this σ) (sym head-answer) ∙ ap (listed σ.levels list) (sym t) ∙ sym r

      -- the nodes can be read
      pub ready-readable : Readable b σ list (length p.edges) (length p.seats)
      ready-readable =
          subst (λ x. Readable x σ list (length p.edges) (length p.seats)) ready-is (readable this σ (header_of limits this σ).answer refl)

      -- the roots' numbers as the header leaves them
      module _ (n : List ℤ) (w : n ≡ laid (head.load_header limits before file).roots (replicate (length p.roots) (pos 0))) where
        numbers-are : n ≡ laid (header_of limits this σ).roots (replicate (length p.roots) (pos 0))
        numbers-are = w ∙ ap (λ x. laid x.roots (replicate (length p.roots) (pos 0))) head-after

        -- what the nodes leave is what the load leaves
        nodes-left : nodes_after b σ file list n ≡ nodes_left (load_of limits this σ)
        nodes-left =
            ap (λ x. nodes_after b σ file list x) numbers-are
            ∙ ap (λ x. nodes_after x σ file list (laid (header_of limits this σ).roots (replicate (length p.roots) (pos 0)))) (sym ready-is)
            ∙ sym (left-load this σ)

        pub answer-left : (d : HeaderAnswer) → d ≡ (nodes_after b σ file list n).answer → d ≡ (load_of limits this σ).answer
        answer-left d e = e ∙ ap (λ x. x.answer) nodes-left

        pub store-left : (τ : Store) → τ ≡ (nodes_after b σ file list n).after → τ ≡ (load_of limits this σ).after
        store-left τ e = e ∙ ap (λ x. x.after) nodes-left

        pub roots_left : (l : List ℤ) → l ≡ (nodes_after b σ file list n).roots → l ≡ (load_of limits this σ).roots
        roots_left l e = e ∙ ap (λ x. x.roots) nodes-left

    -- a list as the header left it, cleared on a refusal, is what the load says
    pub list_left : (d : HeaderAnswer) → d ≡ (load_of limits this σ).answer → (n : ℕ) (g : Entries → List ℕ) → g no_entries ≡ []
        → (l : List ℕ) → l ≡ pad n (g (head_entries (head.load_header limits before file))) → (out : List ℕ) → out ≡ cleared_if (is_refusal d) l
        → out ≡ pad n (g (load_entries (load_of limits this σ)))
    list_left d e n g z l v out o =
        o ∙ ap (λ x. cleared_if (is_refusal x) l) e
        ∙ ap (cleared_if (is_refusal (load_of limits this σ).answer)) (v ∙ ap (λ x. pad n (g (head_entries x))) head-after)
        ∙ cleared-list this σ n g z
