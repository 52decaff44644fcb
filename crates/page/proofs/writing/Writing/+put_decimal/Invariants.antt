-- `Writing::put_decimal`, which calls itself, meets its contract: the number is put in decimal.
-- The measure of the cycle of calls is the number, which falls by its last digit.
use Rattle.page.proofs.writing.Writing.+put_decimal.Given as goal

abbrev pub decreases-put_decimal : goal.decreases-put_decimal
decreases-put_decimal l = l.n
