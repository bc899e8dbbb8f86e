-- Where the anchors' hits stop: the end of the first superior of the other direction. Assumes nothing.
use Rattle.std.proofs.Common.{◌≡◌, ◌<◌, ◌≤◌, ℕ, arith, Bool, true, false, not, List, [], ◌∷◌, map, length, get_or, Some, None, refl, sym, ap, ◌∙◌}
use Rattle.std.specs.List.{find}
use Rattle.std.specs.Option.{option_map}
use Rattle.std.specs.Bool.{beq}
use Rattle.std.specs.declared.option as code
use Rattle.std.proofs.Math.Option.{Option, none, some}
use Rattle.std.proofs.Math.ListN.{get_elem?, length-map}
use Rattle.std.proofs.lemmas.Option.{none-some as code-none-some}
use Rattle.chart.specs.declared.Stroke.{Stroke}
use Rattle.chart.specs.declared.Triple.{Triple}
use Rattle.chart.specs.Table.{point_of}
use Rattle.rules.specs.Lists as rules
use Rattle.rules.specs.Lists.{and_then}
use Rattle.rules.specs.Ranges.{last_stroke, end_point_of}
use Rattle.laws.proofs.Lists.{at_lt, lt_at, map_at, at-getD}
use Rattle.tables.specs.declared.Big.{Big}
use Rattle.tables.specs.Tables.{big_of, bigs_of}
use Rattle.chart.specs.declared.EndPoint.{EndPoint}
use Rattle.rules.specs.Records.{is_up, Levels}
use Rattle.rules.specs.Marks.{anchor_stop, reaches}
use Rattle.tables.specs.declared.Superior.{Superior}
use Rattle.tables.specs.Tables.{superior_of, superiors_of, bar_of}
use Rattle.mark_scan.specs.Scan.{reached_at}

-- a bar reaches it where the rules say so
pub reaches-is : (o : Option Stroke) (bar : ℕ) → reached_at (bar_of o) bar ≡ reaches o bar
unfolding reaches
reaches-is none bar = refl
reaches-is (some s) bar = refl

-- ---- the first superior of the other direction

pub bar-none : (o : Option Stroke) → point_of o ≡ None → None ≡ bar_of o
bar-none none e = refl
bar-none (some s) e = absurd (code-none-some _ (sym e))

pub bar-some : (o : Option Stroke) (p : EndPoint) → point_of o ≡ Some p → Some p.bar ≡ bar_of o
bar-some none p e = absurd (code-none-some _ e)
bar-some (some s) p e = cc

module _ (c : Levels) (buy : Bool) where
  abbrev other : ℕ → Bool
  other d = not (beq (is_up d) buy)

  -- by the superiors' table
  abbrev last_in : List Superior → code.Option.Option ℕ
  last_in ss = option_map (λ (s : Superior). s.last) (find (λ (s : Superior). other s.direction) ss)

  abbrev end_at : code.Option.Option ℕ → Option Stroke
  end_at None = none
  end_at (Some last) = end_point_of c last

  stop-by :
      (ss : List Triple)
      → and_then (rules.find (λ (s : Triple). other s.direction) ss) (λ (s : Triple). end_point_of c s.last) ≡ end_at (last_in (map (superior_of c) ss))
  stop-by [] = refl
  stop-by (s ∷ ss) = go (other s.direction) refl (stop-by ss)
    where
      go :
          (t : Bool) → other s.direction ≡ t
          → and_then (rules.find (λ (s : Triple). other s.direction) ss) (λ (s : Triple). end_point_of c s.last)
          ≡ end_at (last_in (map (superior_of c) ss))
          → and_then (elim t [ true ↦ some s | false ↦ rules.find (λ (s : Triple). other s.direction) ss ]) (λ (s : Triple). end_point_of c s.last)
          ≡ end_at (last_in (map (superior_of c) (s ∷ ss)))
      go true e r = rw (last_in, find, e)
      go false e r = rw (last_in, find, e) r

  pub stop-is :
      (superiors : List Superior) (r : code.Option.Option ℕ) → superiors ≡ superiors_of c → r ≡ last_in superiors → anchor_stop c buy ≡ end_at r
  unfolding anchor_stop
  stop-is superiors r e f = stop-by c.superiors ∙ ap end_at (ap last_in (sym e) ∙ sym f)

  module _ (bigs : List Big) (e : bigs ≡ bigs_of c) (last : ℕ) where
    pub no-big : length bigs ≤ last → end_point_of c last ≡ none
    unfolding end_point_of
    no-big h = go (get_elem? c.bigs last) refl
      where
        go : (o : Option Triple) → get_elem? c.bigs last ≡ o → and_then (get_elem? c.bigs last) (last_stroke c) ≡ none
        go none f = rw f
        go (some t) f = absurd (omega (arith, at_lt c.bigs last t f, ap length e, length-map c.bigs (big_of c)))

    pub big-there : (b : Big) → last < length bigs → b ≡ get_or bigs last b → point_of (end_point_of c last) ≡ b.end
    unfolding end_point_of
    big-there b h f =
        let t = lt_at c.bigs last (omega (arith, ap length e, length-map c.bigs (big_of c))) in
        let g : get_or bigs last b ≡ big_of c t.0 =
        ap (λ (l : List Big). get_or l last b) e ∙ at-getD (bigs_of c) last b (big_of c t.0) (map_at (big_of c) c.bigs last t.0 t.1) in
        rw t.1 (sym (ap (λ (x : Big). x.end) (f ∙ g)))
