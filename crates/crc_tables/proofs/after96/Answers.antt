-- `crc_tables::after96` meets its contract, by its four bytes. Assumes nothing.
use Rattle.crc_tables.proofs.Words.{word}
use Rattle.crc_tables.proofs.after96.Goals as goal

pub returns : goal.returns
returns c = word 96 c.args.x c.ranges.x.fits
    c.turned.ensures c.byte0.ensures
    c.turned-2.ensures c.byte1.ensures
    c.turned-3.ensures c.byte2.ensures
    c.turned-4.ensures c.byte3.ensures
