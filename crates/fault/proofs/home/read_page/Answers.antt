use Rattle.std.proofs.Common.{◌≡◌, ◌+◌, ◌-◌, length, take, drop, ap, ◌∙◌, arith}
use Rattle.fault.proofs.home.read_page.Goals as goal

pub returns-clause-page : goal.returns-clause-page
returns-clause-page g c =
    let seen = g.D.Device.seen c.args.device.now in
    let home = c.args.home in
    let so_many : (home + length c.blank_page-page.result) - home ≡ 4096 = omega (arith, c.blank_page-page.ensures) in
    record {
      block = c.read.new.buffer;
      whole = c.clear_past_end.ensures.page;
      there = λ honest. c.in_ok-read.ensures.bytes honest ∙ ap (λ n. take n (drop home seen)) so_many;
      cut = c.clear_past_end.ensures.cut;
    }
