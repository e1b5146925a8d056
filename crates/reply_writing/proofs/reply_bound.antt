mod Bounding
