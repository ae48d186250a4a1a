mod Checked
mod Leading
mod Made
