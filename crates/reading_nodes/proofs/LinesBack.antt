-- The node lines of a file that were written one after the other are read back, and so is the end.
use mathlib.Core.Path.{◌≡◌, refl, sym, ap, ◌∙◌}
use mathlib.Core.Bool.{Bool, true, false}
use mathlib.Core.List.{List, [], ◌∷◌, ◌++◌, map, append_assoc}
use Prim.Native.Nat.{ℕ, ◌+◌, ◌-◌, ◌^◌, ◌≤◌, ◌<◌}
use native.Mathlib.Omega.{arith}
use lib.ListN.{length, get_or, drop, length-append, get_or-append}
use lib.Seq.{drop-drop}
use Rattle.codes.specs.Bytes.{is_blank, is_line_end, is_whitespace}
use Rattle.seats.specs.Ordered.{ascending}
use Rattle.read_text.specs.Alike.{alike}
use Rattle.read_lines.specs.Each.{Each, none, each}
use Rattle.node_lines.specs.Line.{Line, seat_of_line}
use Rattle.node_lines.specs.Decode.{node_lines, all_read, more_lines, decode_from}
use Rattle.imported.specs.Build.{Judged, AllJudged, one}
use Rattle.imported.specs.Build as build
use Rattle.imported.specs.Import.{setup, line_by, lines_in, blank_all, ends_well}
use Rattle.node_writers.specs.Encoded.{line_bytes, encode_from, node_bytes, end_text}
use Rattle.reading_nodes.specs.Back.{ThenPlain}
use Rattle.reading_nodes.proofs.Standing.{stands_after, Reads}
use Rattle.reading_nodes.proofs.TextBack.{text-line-back}
use Rattle.reading_nodes.proofs.BinaryBack.{bin-line-back}

module _ (count : ℕ) (levels : List ℕ) (a : ascending levels ≡ true) (few : length levels ≤ 2 ^ 32) (f : List ℕ) where
  -- a line of either mode
  line-back : (ascii : Bool) (all seats : List ℕ) (n : ℕ) → n < 2 ^ 63 → ((c : ℕ) → 1 ≤ c → c < n → get_or all (c - 1) 0 ≡ get_or seats (c - 1) 0)
      → (l : Line) → ThenPlain l → Judged levels seats n l → Reads f (line_by ascii false levels count f seats n) (line_bytes ascii all n l) l
  unfolding line_by
  line-back true all seats n h same l plain j = text-line-back levels seats n few h f l j
  line-back false all seats n h same l plain j = bin-line-back count levels seats n a (omega arith) (omega arith) f all same l plain j

  -- the lines from line n on, after lines of these seats
  lines-from : (ascii : Bool) (all seats : List ℕ) (ls : List Line) (n at : ℕ) (r : List ℕ)
      → n ≡ length seats + 1 → all ≡ seats ++ map seat_of_line ls → n + length ls ≤ 2 ^ 63 → Each ThenPlain ls → AllJudged levels seats ls
      → drop at f ≡ encode_from (line_bytes ascii all) n ls ++ r
      → decode_from (line_by ascii false levels count f) (length ls) seats n at ≡ node_lines ls (all_read (at + length (encode_from (line_bytes ascii all) n ls)))
  unfolding decode_from encode_from
  lines-from ascii all seats [] n at r q s b none build.none e = ap (λ (m : ℕ). node_lines [] (all_read m)) (omega arith)
  lines-from ascii all seats (l ∷ ls) n at r q s b (each p ps) (one j js) e =
      let w = line_bytes ascii all n l in
      let v = encode_from (line_bytes ascii all) (n + 1) ls in
      let h : drop at f ≡ w ++ (v ++ r) = e ∙ append_assoc w v r in
      let same : (c : ℕ) → 1 ≤ c → c < n → get_or all (c - 1) 0 ≡ get_or seats (c - 1) 0 =
      λ c x y. rw s (get_or-append seats (map seat_of_line (l ∷ ls)) 0 (c - 1) (omega arith)) in
      let next : n + 1 ≡ length (seats ++ (seat_of_line l ∷ [])) + 1 = simp length-append (omega arith) in
      let all-is : all ≡ (seats ++ (seat_of_line l ∷ [])) ++ map seat_of_line ls = s ∙ sym (append_assoc seats (seat_of_line l ∷ []) (map seat_of_line ls)) in
      let end : at + length w + length v ≡ at + length (w ++ v) = simp length-append (omega arith) in
      rw ((line-back ascii all seats n (omega arith) same l p (rw q j)).back at (v ++ r) h, decode_from)
      (ap (more_lines l)
      (lines-from ascii all (seats ++ (seat_of_line l ∷ [])) ls (n + 1) (at + length w) r next all-is (omega arith) ps js (stands_after f at w (v ++ r) h))
      ∙ ap (λ (m : ℕ). node_lines (l ∷ ls) (all_read m)) end)

  -- All lines that were judged, and written from a position on, are read back.
  pub lines_back : (ascii : Bool) (ls : List Line) → Each ThenPlain ls → AllJudged levels [] ls → length ls < 2 ^ 63
      → (lines at : ℕ) (r : List ℕ) → drop at f ≡ node_bytes ascii ls ++ r
      → lines_in (setup ascii false (length ls) lines levels count) f at ≡ node_lines ls (all_read (at + length (node_bytes ascii ls)))
  unfolding lines_in node_bytes
  lines_back ascii ls p j h lines at r e = lines-from ascii (map seat_of_line ls) [] ls 1 at r refl refl (omega arith) p j e

-- The end that is written is an end.
pub end_back : (f : List ℕ) (at : ℕ) → drop at f ≡ end_text → ends_well f at ≡ true
unfolding ends_well alike blank_all is_whitespace is_blank is_line_end
end_back f at e = rw (← drop-drop 4 at f, e)
