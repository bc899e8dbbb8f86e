-- One name to unfold all definitions of the rules at once, so that a worked fact computes. Assumes nothing.
use Prim.Native.Nat.{ℕ}
use lib.Ieee as ieee
use Rattle.price.specs.Price as price
use Rattle.price.specs.Bytes as bytes
use Rattle.rules.specs.Records as records
use Rattle.rules.specs.Answer as answer
use Rattle.rules.specs.Ranges as ranges
use Rattle.rules.specs.Zones as zones
use Rattle.rules.specs.Machine as machine
use Rattle.rules.specs.Live as live
use Rattle.rules.specs.Marks as marks
use Rattle.rules.specs.Classes as classes
use Rattle.rules.specs.FirstMarks as first_marks
use Rattle.rules.specs.Labels as labels
use Rattle.rules.specs.File as file
use Rattle.rules.specs.BarsFile as barsFile
use Rattle.rules.specs.Program as program
use Rattle.rules.specs.Text as text
use Rattle.rules.specs.Refusals as refusals
use Rattle.rules.specs.Calls as calls

-- `unfolding everything` unfolds what the line below names; its value says nothing
unfoldable pub everything : ℕ
unfolding records.levels_of
    answer.is_refused answer.answered answer.counted_answer
    ranges.first_stroke ranges.last_stroke ranges.spanned ranges.range_of ranges.segment_range ranges.end_point_of
    zones.opposing zones.low_bar_of zones.high_bar_of zones.begin zones.joins zones.join zones.cut zones.runs zones.within zones.opposing_of zones.zones_of zones.zones_from
    zones.members_in zones.overlap_zones zones.members_of zones.lower_zones_of zones.lower_members_of
    machine.empty machine.zones machine.refusal machine.with_strokes machine.with_segments machine.with_bigs machine.with_superiors
    machine.lengthened machine.withdrawn machine.as_triple machine.stepped machine.step machine.run machine.answers
    live.view live.seen live.live_refusal live.after
    marks.quote marks.beats marks.price_at marks.superior_of marks.leaving marks.reaches_zone marks.superior_end marks.reversal
    marks.reaches marks.stops marks.pair_ends marks.scanned marks.third_at marks.zone_third marks.anchors_of marks.anchor_side
    marks.ends_after marks.anchor_price marks.anchor_bars marks.anchor_third marks.add_third marks.third_marks marks.mark_at marks.numbered
    marks.order_zero marks.insert_bar marks.scanned_bars marks.zero_at marks.superior_numbered marks.superiors_numbered marks.anchor_stop
    marks.anchor_numbered marks.push_3n marks.n_marks
    classes.item classes.segment_item classes.big_item classes.beyond classes.at_or_beyond classes.at_or_short classes.case2_from classes.case2
    classes.case3 classes.ends_before classes.wanted classes.class_at classes.tried classes.walk classes.moved classes.extend_over
    classes.extend classes.extend_all classes.classes classes.segment_classes classes.big_classes
    first_marks.fitting first_marks.first_of first_marks.firsts_of first_marks.insert_first first_marks.first_marks
    labels.touches labels.lone labels.name_within labels.col_name labels.name_of labels.labels_from labels.labels
    file.mark_of file.width file.is_mark file.kind_of file.kind file.number file.price file.stroke_in file.triple_in file.record_in
    file.stroke_bytes file.triple_bytes file.field_bytes file.record_bytes file.nothing file.append file.full file.field_refusal
    file.read_record file.read_from file.read_file file.records_of file.written file.write_refusal file.write_call file.buffer_after
    barsFile.bar_mark barsFile.bar_in barsFile.bar_bytes barsFile.quotes_of barsFile.misnumbered barsFile.bar_refusal barsFile.read_bar
    barsFile.read_bars_from barsFile.read_bars barsFile.read_bars_call barsFile.bar_count barsFile.placed barsFile.bars_after barsFile.bars_from barsFile.bars_of
    barsFile.bars_written barsFile.write_bars_refusal barsFile.write_bars_call barsFile.bars_buffer_after
    program.marks_of program.printed_bars program.printed program.chart_read program.marks_output
    text.ascii text.decimal_within text.decimal text.hex_digit text.hex text.mark_line text.marks_text text.refused_line
    refusals.refuse refusals.wrong_bytes refusals.bad_prices refusals.bad_stroke refusals.unmet refusals.unjoined refusals.bad_triple refusals.overfull refusals.wrong_stroke
    refusals.bad_levels refusals.bad_chart refusals.broken_strokes refusals.broken_triples refusals.broken_levels refusals.same_price
    refusals.same_zone refusals.same_zones refusals.bad_live refusals.stroke_refusal refusals.triple_refusal refusals.lengthen_refusal
    refusals.held refusals.withdraw_refusal refusals.derive_refusal refusals.zones_refusal refusals.lower_refusal refusals.unequal refusals.bad_slices
    refusals.bad_quotes refusals.third_refusal refusals.ends_outside refusals.n_refusal refusals.lacks refusals.segment_classes_refusal
    refusals.big_classes_refusal
    calls.on_chart calls.range_call calls.end_point_call calls.zones_call calls.lower_call calls.labels_call calls.third_call calls.n_call
    calls.segment_classes_call calls.big_classes_call calls.first_marks_call
    price.is_price price.all_prices price.lower price.higher
    bytes.bytes_of bytes.of_bytes
    ieee.lt ieee.le ieee.eq ieee.of_int ieee.to_bits ieee.of_bits ieee.fits
everything = 0
