use Rattle.std.proofs.Common.{◌+◌, codes, refl}
use Rattle.record_reading.proofs.PlainLineLemmas.{view_bids_in_place, view_category_in_place, view_item_in_place, view_user_in_place}
use Rattle.record_reading.specs.declared.fields.RequestKind.TheVariants as kind
use Rattle.record_reading.proofs.plain_lines.view_at.Goals as goal

pub returns-then-begins : goal.returns-then-begins
returns-then-begins c =
    record {
      word = codes "viewitem";
      kind = kind.ViewItem;
      plain = refl;
      named = refl;
      there = c.begins.ensures c.if-begins.true;
      rest = view_item_in_place c.args.text.now (c.args.at + 9) c.in_ok-item.item c.in_ok-item.next c.in_ok-item.ensures;
    }

pub returns-then-begins-2 : goal.returns-then-begins-2
returns-then-begins-2 c =
    record {
      word = codes "viewbids";
      kind = kind.ViewBids;
      plain = refl;
      named = refl;
      there = c.begins-2.ensures c.if-begins-2.true;
      rest = view_bids_in_place c.args.text.now (c.args.at + 9) c.in_ok-item-2.item c.in_ok-item-2.next c.in_ok-item-2.ensures;
    }

pub returns-then-begins-3 : goal.returns-then-begins-3
returns-then-begins-3 c =
    record {
      word = codes "viewcategory";
      kind = kind.ViewCategory;
      plain = refl;
      named = refl;
      there = c.begins-3.ensures c.if-begins-3.true;
      rest = view_category_in_place c.args.text.now (c.args.at + 13) c.in_ok-category.category c.in_ok-category.next c.in_ok-category.ensures;
    }

pub returns-then-begins-4 : goal.returns-then-begins-4
returns-then-begins-4 c =
    record {
      word = codes "viewuser";
      kind = kind.ViewUser;
      plain = refl;
      named = refl;
      there = c.begins-4.ensures c.if-begins-4.true;
      rest = view_user_in_place c.args.text.now (c.args.at + 9) c.in_ok-user.user c.in_ok-user.next c.in_ok-user.ensures;
    }
