-- What the bytes of a number say, with no word of how it is read. Document 01, 'Node lines'.
use Rattle.std.specs.Prelude.{◌≡◌, List, [], ◌∷◌, ◌++◌, map, ℕ, ◌/◌, ◌%◌, ◌^◌, ◌≤◌, ◌<◌}
use Rattle.codes.specs.Answer.{Step, got, fails}
use Rattle.read_binary.specs.Binary.{byte_at}
use Rattle.read_numbers.specs.Value.{value_of}

-- The bytes, unescaped, that stand from a position on, and the position after them.
pub data Bytes (f : List ℕ) : ℕ → List ℕ → ℕ → Type 0 where
  none : {at : ℕ} → Bytes f at [] at
  byte : {at m next b : ℕ} {bs : List ℕ} → byte_at f at ≡ got b m → Bytes f m bs next → Bytes f at (b ∷ bs) next

-- 'bit 0 means more': it is set in each of these bytes
pub data More : List ℕ → Type 0 where
  none : More []
  more : {b : ℕ} {bs : List ℕ} → b % 2 ≡ 1 → More bs → More (b ∷ bs)

-- '7-bit groups, .. in bits 7-1'
abbrev pub group : ℕ → ℕ
group b = b / 2

-- 'highest first': the number of the groups of some bytes
abbrev pub groups_number : List ℕ → ℕ
groups_number bs = value_of 128 (map group bs)

-- Bytes that each mean more, and whose number 64 bits hold, lead from a position to another.
pub record LeadingGroups (f : List ℕ) (at : ℕ) (bs : List ℕ) (i : ℕ) : Type 0 where
  pub stand : Bytes f at bs i
  pub more : More bs
  pub small : groups_number bs < 2 ^ 64

-- A number stands at a position: bytes that mean more, and a last one that does not.
pub record Stands (f : List ℕ) (at v next : ℕ) : Type 0 where
  pub bytes : List ℕ
  pub last : ℕ
  pub stand : Bytes f at (bytes ++ (last ∷ [])) next
  pub more : More bytes
  pub end : last % 2 ≡ 0
  pub value : groups_number (bytes ++ (last ∷ [])) ≡ v
  pub small : v < 2 ^ 64

-- 'the group that passes 64 bits'
pub record PassesGroups (f : List ℕ) (at : ℕ) : Type 0 where
  pub bytes : List ℕ
  pub last : ℕ
  pub next : ℕ
  pub stand : Bytes f at (bytes ++ (last ∷ [])) next
  pub more : More bytes
  pub small : groups_number bytes < 2 ^ 64
  pub over : 2 ^ 64 ≤ groups_number (bytes ++ (last ∷ []))

-- A byte is refused where a group should stand.
pub record Breaks (f : List ℕ) (at n : ℕ) : Type 0 where
  pub bytes : List ℕ
  pub place : ℕ
  pub leads : LeadingGroups f at bytes place
  pub refused : byte_at f place ≡ fails n

-- What a number's answer can be, and of which bytes.
pub data GroupAnswers (f : List ℕ) (at : ℕ) : Step ℕ → Type 0 where
  reads : {v next : ℕ} → Stands f at v next → GroupAnswers f at (got v next)
  over : PassesGroups f at → GroupAnswers f at (fails 38)
  ends : {n : ℕ} → Breaks f at n → GroupAnswers f at (fails n)
