-- What the structs of this crate stand for in the definitions of classes. Assumes nothing.
use Rattle.std.specs.Prelude.{ℕ, suc, ◌≡◌, List, map, Some, None}
use Rattle.std.proofs.Math.Option.{Option, none, some}
use Rattle.std.proofs.Math.ListN.{get_elem?}
use Rattle.std.specs.declared.option as code
use Rattle.chart.specs.Table.{option_of}
use Rattle.chart.specs.declared.Class.{Class}
use Rattle.rules.specs.Classes.{Item, case2}
use Rattle.classes.specs.declared.Item as struct
use Rattle.classes.specs.declared.Held.{Held}

abbrev pub item_of : struct.Item → Item
item_of x = record { direction = x.direction; start = x.start; end = x.end }

abbrev pub items_in : List struct.Item → List Item
items_in xs = map item_of xs

-- the item of a record, where it is there
abbrev pub item_read : code.Option.Option struct.Item → Option Item
item_read None = none
item_read (Some x) = some (item_of x)

-- the last class of the walk, and the index behind its end
abbrev pub class_in : code.Option.Option Held → Option Class
class_in None = none
class_in (Some h) = some h.class

abbrev pub next_in : code.Option.Option Held → ℕ
next_in None = 0
next_in (Some h) = suc h.class.last

-- what is kept beside a class is of its first item, which is one of these
pub record Keeps (items : List Item) (h : Held) : Type 0 where
  pub opening : Item
  pub there : get_elem? items h.class.first ≡ some opening
  pub start : opening.start ≡ h.start
  pub second : option_of h.second ≡ case2 items h.class.first

abbrev pub Kept : List Item → code.Option.Option Held → Type 0
Kept items None = Unit {0}
Kept items (Some h) = Keeps items h
