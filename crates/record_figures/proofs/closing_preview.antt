mod Previewing
