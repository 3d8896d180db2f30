use Rattle.std.proofs.Common.{◌≡◌, Some, None, refl, rules}
use Rattle.std.specs.Prelude.{IsSome}
use Rattle.duk_pin.specs.Pan.{IsPan}
use Rattle.duk_tdes.specs.KeyBytes.{bytes_of}
use Rattle.duk_tdes.specs.KeyText.{tdes_key_of_text}
use Rattle.duk_commands.specs.PinBlocks.{block_of_text}
use Rattle.duk_commands.specs.Start.{IsStart}
use Rattle.duk_commands.proofs.TranslateOrder.{no_pin_block, start_refused_by, zone_refused}
use Rattle.duk_commands.proofs.pin_blocks.translate_lines.Goals as goal

pub returns-in_err-start-clause-refused : goal.returns-in_err-start-clause-refused
returns-in_err-start-clause-refused c =
    let is_block : IsSome (block_of_text c.args.block.now) = search rules in
    let is_pan : IsPan c.args.pan.now = search rules in
    let refused = start_refused_by c.args.block.now c.args.pan.now c.args.ksn.now c.args.zone.now c.args.given c.read_start.result is_block is_pan c.read_start.ensures.refused in
    search (rules, refused)

pub returns-in_err-zone-clause-refused : goal.returns-in_err-zone-clause-refused
returns-in_err-zone-clause-refused c =
    let is_block : IsSome (block_of_text c.args.block.now) = search rules in
    let is_pan : IsPan c.args.pan.now = search rules in
    let start : IsStart c.args.given c.args.ksn.now c.in_ok-start.start.initial c.in_ok-start.start.ksn = search rules in
    let none : tdes_key_of_text c.args.zone.now ≡ None = search rules in
    let refused = zone_refused c.args.block.now c.args.pan.now c.args.ksn.now c.args.zone.now c.args.given _ _ is_block is_pan start none in
    search (rules, refused)

pub returns-in_err-pin-clause-refused : goal.returns-in_err-pin-clause-refused
returns-in_err-pin-clause-refused c =
    let block : block_of_text c.args.block.now ≡ Some c.in_ok-block.block = search rules in
    let is_pan : IsPan c.args.pan.now = search rules in
    let start : IsStart c.args.given c.args.ksn.now c.in_ok-start.start.initial c.in_ok-start.start.ksn = search rules in
    let is_zone : IsSome (tdes_key_of_text c.args.zone.now) = search rules in
    let refused = no_pin_block c.args.block.now c.args.pan.now c.args.ksn.now c.args.zone.now c.args.given c.in_ok-block.block _ _ block is_pan start is_zone (search rules) in
    search (rules, refused)

pub returns-clause-lines : goal.returns-clause-lines
returns-clause-lines c = record {
  zone = bytes_of c.in_ok-zone.zone;
  pin = c.in_ok-pin.pin;
  read = record {
    block = c.in_ok-block.block;
    initial = c.in_ok-start.start.initial;
    serial = c.in_ok-start.start.ksn;
    zone_key = c.in_ok-zone.zone;
    block_read = search rules;
    pan_read = search rules;
    start = search rules;
    zone_read = search rules;
    zone_is = refl;
    is_block = search rules;
  };
  text_is = search rules;
}
