use Rattle.duk_service.proofs.new_file.make_blank.Goals as goal

pub returns-in-Ok-clause-made : goal.returns-in-Ok-clause-made
returns-in-Ok-clause-made g c = record {
  made = c.in_ok-disk.disk;
  last = c.keep_blank.new.disk;
  is_made = c.in_ok-disk.ensures.made;
  size_is = c.in-Ok.ensures.kept.size_is;
  written = c.in-Ok.ensures.kept.written;
  blank = c.in-Ok.ensures.kept.blank;
  folder = c.in-Ok.ensures.kept.synced;
}
